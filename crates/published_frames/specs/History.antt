-- The history of frames: the steps that were published, one after another, from frame 0 on.
use Rattle.std.specs.Prelude.{◌≡◌, ℕ, ◌≤◌, List, [], ◌∷◌, ◌++◌, length, map}
use Rattle.std.specs.List.{All}
use Rattle.fixed_vec.specs.declared.vector.V2.{V2}
use Rattle.crowd_data.specs.declared.frame.Body.{Body}
use Rattle.crowd_data.specs.declared.frame.Moves.{Moves}
use Rattle.crowd_data.specs.Limits.{IsWithin}
use Rattle.crowd_data.specs.Present.{AreNumbered}
use Rattle.crowd_data.specs.Run.{IsNext, Snapshot, snapshot_of, start_of}
use Rattle.crowd_data.specs.Scenario.{Parts}
use Rattle.published_frames.specs.declared.entry.Step.{Step}

-- the step that publishes these moves
abbrev pub step_of : Moves → Step
step_of moves = record { posts = moves.posts.items; number = moves.frame.number; bodies = moves.frame.bodies.items }

-- the frame that a step led to
abbrev pub frame_of : Step → Snapshot
frame_of step = record { number = step.number; bodies = step.bodies }

-- the frame that these steps lead to from a frame
abbrev pub last_of : Snapshot → List Step → Snapshot
last_of frame [] = frame
last_of frame (step ∷ rest) = last_of (frame_of step) rest

-- the greatest size of a coordinate of a position, one less than 2^31
abbrev pub farthest : ℕ
farthest = 2147483647

-- all bodies are at coordinates below 2^31 in size
abbrev pub AreInRange : List Body → Type 0
AreInRange bodies = All (λ (body : Body). IsWithin body.pos farthest) bodies

-- each step makes the next frame of the one before with its posts, and no body gets out of range
abbrev pub Continues : Parts → Snapshot → List Step → Type 0
Continues scenario frame [] = Unit {0}
Continues scenario frame (step ∷ rest) = IsNext scenario frame step.posts (frame_of step) × AreInRange step.bodies × Continues scenario (frame_of step) rest

-- a legal history of a scenario: it goes on from frame 0, and has no more steps than the scenario
pub record IsHistory (scenario : Parts) (history : List Step) : Type 0 where
  pub legal : Continues scenario (start_of scenario) history
  pub steps : length history ≤ scenario.steps

-- these moves can be published next: their frame is the next one with their posts, and no body gets out of range
pub record CanFollow (scenario : Parts) (history : List Step) (moves : Moves) : Type 0 where
  pub next : IsNext scenario (last_of (start_of scenario) history) moves.posts.items (snapshot_of moves.frame)
  pub in_range : AreInRange moves.frame.bodies.items

-- a history begins with another one
abbrev pub StartsWith : List Step → List Step → Type 0
StartsWith history begun = (rest : List Step) × (history ≡ begun ++ rest)

-- a frame that readers are lent: one body for each agent in order of number, each in range
pub record IsReadable (scenario : Parts) (frame : Snapshot) : Type 0 where
  pub full : length frame.bodies ≡ length scenario.agents
  pub numbered : AreNumbered frame.bodies
  pub in_range : AreInRange frame.bodies

-- the preferred velocities of bodies, in order
abbrev pub prefs_of : List Body → List V2
prefs_of bodies = map (λ (body : Body). body.pref) bodies
