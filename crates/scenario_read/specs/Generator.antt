-- Generated scenarios: every number is drawn from one generator, in a fixed order.
use Rattle.std.specs.Prelude.{ℕ, zero, suc, ◌+◌, ◌*◌, ◌/◌, ◌%◌, List, [], ◌∷◌, pos, neg_ℤ, ℤ, ◌+ℤ◌, ◌-ℤ◌}
use Rattle.exact_algebra.specs.Numbers.{ceil_root}
use Rattle.fixed_vec.specs.declared.vector.V2.{V2}
use Rattle.fixed_vec.specs.Vector.{opposite, zero_vector}
use Rattle.crowd_data.specs.declared.agent.Agent.{Agent}
use Rattle.crowd_data.specs.declared.segment.Segment.{Segment}
use Rattle.crowd_data.specs.declared.post.ScriptPost.{ScriptPost}
use Rattle.crowd_data.specs.declared.post.Goal.{Goal}
use Rattle.crowd_data.specs.declared.limits.TheConstants.{FIRST_VERSION, PLAIN_RING}
use Rattle.crowd_data.specs.Scenario.{Parts}

-- ---- the generator: its state is a number below 65537

abbrev pub next_state : ℕ → ℕ
next_state s = (75 * s + 74) % 65537

-- the state after so many draws
unfoldable pub state_after : ℕ → ℕ → ℕ
state_after zero s = s
state_after (suc n) s = state_after n (next_state s)

-- what the k-th draw from a state gives, below m; draws are counted from 1
abbrev pub drawn : ℕ → ℕ → ℕ → ℕ
drawn s k m = state_after k s % m

-- ---- agents, six draws each

-- 4000*place - 2000*side + drawn - 500
abbrev pub coordinate : ℕ → ℕ → ℕ → ℤ
coordinate side place drawn = pos (4000 * place) -ℤ pos (2000 * side) +ℤ pos drawn -ℤ pos 500

-- a vector of two draws of which each gives -200 to 200
abbrev pub velocity : ℕ → ℕ → V2
velocity x y = record { x = pos x -ℤ pos 200; y = pos y -ℤ pos 200 }

-- a place in the agent's cell of a square grid with so many columns, from the state before its draws
abbrev pub place : ℕ → ℕ → ℕ → V2
place side number s = record { x = coordinate side (number % side) (drawn s 1 1001); y = coordinate side (number / side) (drawn s 2 1001) }

-- an agent at rest
unfoldable pub generated_agent : ℕ → ℕ → ℕ → Agent
generated_agent side number s =
    record {
      pos = place side number s;
      vel = zero_vector;
      pref = velocity (drawn s 5 401) (drawn s 6 401);
      radius = 500 + drawn s 3 501;
      speed = 200 + drawn s 4 201;
      range = 15000;
      most = 10;
      horizon = 40;
      wall_horizon = 10;
      weight = 1;
    }

-- so many agents, numbered from here on
unfoldable pub generated_agents : ℕ → ℕ → ℕ → ℕ → List Agent
generated_agents side number zero s = []
generated_agents side number (suc left) s = generated_agent side number s ∷ generated_agents side (number + 1) left (state_after 6 s)

-- ---- segments: a square round all cells

-- the corners are at h to every side
abbrev pub half_width : ℕ → ℤ
half_width side = pos (2000 * side + 3000)

abbrev pub lower_wall : ℤ → Segment
lower_wall h = record { a = record { x = neg_ℤ h; y = neg_ℤ h }; b = record { x = h; y = neg_ℤ h } }

abbrev pub right_wall : ℤ → Segment
right_wall h = record { a = record { x = h; y = neg_ℤ h }; b = record { x = h; y = h } }

abbrev pub upper_wall : ℤ → Segment
upper_wall h = record { a = record { x = h; y = h }; b = record { x = neg_ℤ h; y = h } }

abbrev pub left_wall : ℤ → Segment
left_wall h = record { a = record { x = neg_ℤ h; y = h }; b = record { x = neg_ℤ h; y = neg_ℤ h } }

unfoldable pub generated_segments : ℕ → List Segment
generated_segments side =
    let h = half_width side in lower_wall h ∷ right_wall h ∷ upper_wall h ∷ left_wall h ∷ []

-- ---- posts, three draws each: one for each tenth frame

unfoldable pub generated_post : ℕ → ℕ → ℕ → ScriptPost
generated_post agents frame s = record { frame = frame; agent = drawn s 1 agents; vel = velocity (drawn s 2 401) (drawn s 3 401) }

-- so many posts, from this frame on
unfoldable pub generated_posts : ℕ → ℕ → ℕ → ℕ → List ScriptPost
generated_posts agents frame zero s = []
generated_posts agents frame (suc left) s = generated_post agents frame s ∷ generated_posts agents (frame + 10) left (state_after 3 s)

-- ---- goals: each agent wants to the opposite place, at its speed

abbrev pub generated_goal : ℕ → Agent → Goal
generated_goal number agent = record { controller = number % 4; agent = number; at = opposite agent.pos; pace = agent.speed }

-- the goals of agents that are numbered from here on
unfoldable pub generated_goals : ℕ → List Agent → List Goal
generated_goals number [] = []
generated_goals number (agent ∷ rest) = generated_goal number agent ∷ generated_goals (number + 1) rest

-- ---- the scenario

abbrev pub generated : ℕ → ℕ → ℕ → Parts
generated number agents steps =
    let side = ceil_root agents in
    let crowd = generated_agents side 0 agents number in
    record {
      version = FIRST_VERSION;
      ring = PLAIN_RING;
      steps = steps;
      agents = crowd;
      segments = generated_segments side;
      posts = generated_posts agents 10 (steps / 10) (state_after (6 * agents) number);
      goals = generated_goals 0 crowd;
    }
