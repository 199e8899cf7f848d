-- What a controller's turns on frames prefer.
use Rattle.std.specs.Prelude.{◌≡◌, ℕ, ◌<◌, ◌≤◌, ◌==◌, ◌⊎◌, List, [], ◌∷◌, ◌++◌, filter, length, map, reverse, Option, MatchOption}
use Rattle.fixed_vec.specs.declared.vector.V2.{V2}
use Rattle.crowd_data.specs.declared.post.Goal.{Goal}
use Rattle.crowd_data.specs.declared.post.Post.{Post}
use Rattle.crowd_data.specs.Headings.{heading}
use Rattle.crowd_data.specs.Run.{Snapshot, body_at, start_of}
use Rattle.crowd_data.specs.Scenario.{Parts}
use Rattle.published_frames.specs.declared.entry.Step.{Step}
use Rattle.published_frames.specs.History.{frame_of}

-- an agent, and the velocity that is preferred for it
pub record Preference : Type 0 where
  pub agent : ℕ
  pub vel : V2

-- a post without its controller and its seq
abbrev pub preference_of : Post → Preference
preference_of post = record { agent = post.agent; vel = post.vel }

abbrev pub preferences_of : List Post → List Preference
preferences_of posts = map preference_of posts

-- the goals of a controller, in order
abbrev pub goals_of : ℕ → List Goal → List Goal
goals_of controller goals = filter (λ (goal : Goal). goal.controller == controller) goals

-- for a goal: its agent, and the heading from where that agent is in the frame
abbrev pub preference_for : Snapshot → Goal → Preference
preference_for frame goal = record { agent = goal.agent; vel = heading (body_at frame.bodies goal.agent).pos goal }

-- a turn on a frame: for each of these goals in order
abbrev pub turn : List Goal → Snapshot → List Preference
turn goals frame = map (preference_for frame) goals

-- the same, with the last frame first: that frame was skipped, or the list ends with its turn
abbrev pub TurnsBack : (Snapshot → List Preference) → List Snapshot → List Preference → Type 0
TurnsBack t [] list = list ≡ []
TurnsBack t (frame ∷ before) list = TurnsBack t before list ⊎ ((rest : List Preference) × (list ≡ rest ++ t frame) × TurnsBack t before rest)

-- the list is turns on some of these frames, in their order, where t tells the turn on a frame
abbrev pub TurnsOn : (Snapshot → List Preference) → List Snapshot → List Preference → Type 0
TurnsOn t frames list = TurnsBack t (reverse frames) list

-- the list is turns on some of these frames, the last one on the frame at this place
pub record TurnsTo (t : Snapshot → List Preference) (frames : List Snapshot) (list : List Preference) (place : ℕ) : Type 0 where
  pub before : List Snapshot
  pub frame : Snapshot
  pub after : List Snapshot
  pub rest : List Preference
  pub split : frames ≡ before ++ frame ∷ after
  pub at : length before ≡ place
  pub ends : list ≡ rest ++ t frame
  pub earlier : TurnsOn t before rest

-- no turn yet; or turns on some of these frames, the last one on the frame of this number
abbrev pub HasTurned : (Snapshot → List Preference) → List Snapshot → List Preference → Option ℕ → Type 0
HasTurned t frames list last = MatchOption last (list ≡ []) (λ number. TurnsTo t frames list number)

-- the frame of this number comes after that of the last turn, if there was one
abbrev pub IsNewer : Option ℕ → ℕ → Type 0
IsNewer last number = MatchOption last (Unit {0}) (λ turned. turned < number)

-- the last turn was on the frame of this number, or on a later one
abbrev pub IsReached : Option ℕ → ℕ → Type 0
IsReached last number = MatchOption last ⊥ (λ turned. number ≤ turned)

-- frame 0 of a scenario, and the frames of these steps
abbrev pub frames_of : Parts → List Step → List Snapshot
frames_of scenario history = start_of scenario ∷ map frame_of history
