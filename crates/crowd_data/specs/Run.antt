-- Frames: the first one, the next one, and the run of a scenario.
use Rattle.std.specs.Prelude.{◌≡◌, ℕ, zero, suc, ◌+◌, ◌<◌, ◌==◌, if◌then◌else◌, List, [], ◌∷◌, map, length, slice_index_or}
use Rattle.fixed_vec.specs.declared.vector.V2.{V2}
use Rattle.fixed_vec.specs.Vector.{plus, zero_vector}
use Rattle.crowd_data.specs.declared.agent.Agent.{Agent}
use Rattle.crowd_data.specs.declared.post.Post.{Post}
use Rattle.crowd_data.specs.declared.post.ScriptPost.{ScriptPost}
use Rattle.crowd_data.specs.declared.frame.Body.{Body}
use Rattle.crowd_data.specs.declared.frame.Frame.{Frame}
use Rattle.crowd_data.specs.declared.frame.Mark.{Mark}
use Rattle.crowd_data.specs.declared.frame.Mark.TheVariants.{Start}
use Rattle.crowd_data.specs.Scenario.{Parts}
use Rattle.crowd_data.specs.Advice.{IsAdvice}

-- a frame: its number, and its bodies in order of agent number
pub record Snapshot : Type 0 where
  pub number : ℕ
  pub bodies : List Body

-- what a frame of the code shows
abbrev pub snapshot_of : Frame → Snapshot
snapshot_of frame = record { number = frame.number; bodies = frame.bodies.items }

-- the body of an agent at the start
abbrev pub starting_body : ℕ → Agent → Body
starting_body number agent = record { agent = number; pos = agent.pos; vel = agent.vel; pref = agent.pref; mark = Start; relief = 0 }

-- the bodies of agents that are numbered from here on
abbrev pub starting_bodies : ℕ → List Agent → List Body
starting_bodies number [] = []
starting_bodies number (agent ∷ rest) = starting_body number agent ∷ starting_bodies (number + 1) rest

-- frame 0: each agent as the scenario has it
abbrev pub start_of : Parts → Snapshot
start_of scenario = record { number = 0; bodies = starting_bodies 0 scenario.agents }

-- a post sets the preferred velocity of its agent
abbrev pub after_post : Post → List Body → List Body
after_post post bodies = map (λ (body : Body). if body.agent == post.agent then record body { pref = post.vel } else body) bodies

-- each post in order, so that the last one for an agent wins
abbrev pub after_posts : List Post → List Body → List Body
after_posts [] bodies = bodies
after_posts (post ∷ rest) bodies = after_posts rest (after_post post bodies)

-- an agent as it stands in a frame
abbrev pub standing : Agent → Body → Agent
standing agent body = record agent { pos = body.pos; vel = body.vel; pref = body.pref }

-- all agents as they stand in a frame
abbrev pub crowd_of : List Agent → List Body → List Agent
crowd_of [] bodies = []
crowd_of (agent ∷ agents) [] = []
crowd_of (agent ∷ agents) (body ∷ bodies) = standing agent body ∷ crowd_of agents bodies

-- the body of an agent that isn't there
abbrev pub no_body : Body
no_body = record { agent = 0; pos = zero_vector; vel = zero_vector; pref = zero_vector; mark = Start; relief = 0 }

abbrev pub body_at : List Body → ℕ → Body
body_at bodies who = slice_index_or bodies who no_body

-- a body that takes a velocity, a mark and a relief, and moves by the velocity
abbrev pub moved_body : V2 → Mark → ℕ → Body → Body
moved_body vel mark relief body = record body { pos = plus body.pos vel; vel = vel; mark = mark; relief = relief }

-- a body after a step: the velocity, mark and relief of its advice, and its position moved by the velocity
pub record IsMoved (scenario : Parts) (crowd : List Agent) (who : ℕ) (before after : Body) : Type 0 where
  pub agent : after.agent ≡ before.agent
  pub pref : after.pref ≡ before.pref
  pub advice : IsAdvice scenario crowd who after.vel after.mark after.relief
  pub pos : after.pos ≡ plus before.pos after.vel

-- the next frame: the posts are taken in, then every advice is taken from that one frozen state, then
-- all bodies move
pub record IsNext (scenario : Parts) (frame : Snapshot) (posts : List Post) (next : Snapshot) : Type 0 where
  pub below : frame.number < scenario.steps
  pub number : next.number ≡ frame.number + 1
  pub bodies : length next.bodies ≡ length frame.bodies
  pub moved : (who : ℕ) → who < length frame.bodies
      → IsMoved scenario (crowd_of scenario.agents (after_posts posts frame.bodies)) who (body_at (after_posts posts frame.bodies) who) (body_at next.bodies who)

-- each further frame is the next of the one before, with its list of posts
abbrev pub Follow : Parts → Snapshot → List (List Post) → List Snapshot → Type 0
Follow scenario frame [] [] = Unit {0}
Follow scenario frame [] (next ∷ rest) = ⊥
Follow scenario frame (posts ∷ lists) [] = ⊥
Follow scenario frame (posts ∷ lists) (next ∷ rest) = IsNext scenario frame posts next × Follow scenario next lists rest

-- a run: frame 0, and the frames that follow, one for each list of posts
abbrev pub IsRun : Parts → List (List Post) → List Snapshot → Type 0
IsRun scenario lists [] = ⊥
IsRun scenario lists (first ∷ rest) = (first ≡ start_of scenario) × Follow scenario first lists rest

-- scripted posts as posts of the script, whose places are numbered from here on
abbrev pub scripted_from : ℕ → List ScriptPost → ℕ → List Post
scripted_from place [] number = []
scripted_from place (post ∷ rest) number =
    if post.frame == number
    then record { controller = 16; seq = place; agent = post.agent; vel = post.vel } ∷ scripted_from (place + 1) rest number
    else scripted_from (place + 1) rest number

-- the scripted posts of a frame, each with its place in the scenario's posts
abbrev pub script_of : Parts → ℕ → List Post
script_of scenario number = scripted_from 0 scenario.posts number

-- the scripts of so many frames from here on
abbrev pub scripts_from : Parts → ℕ → ℕ → List (List Post)
scripts_from scenario number zero = []
scripts_from scenario number (suc left) = script_of scenario number ∷ scripts_from scenario (number + 1) left

-- the scripts of the frames 1, 2 and so on, up to the scenario's steps
abbrev pub scripts_of : Parts → List (List Post)
scripts_of scenario = scripts_from scenario 1 scenario.steps
