-- The limits of a scenario's numbers. All are inclusive.
use Rattle.std.specs.Prelude.{◌≡◌, ◌⊎◌, ℕ, ◌<◌, ◌≤◌, unsigned_abs}
use Rattle.fixed_vec.specs.declared.vector.V2.{V2}
use Rattle.crowd_data.specs.declared.agent.Agent.{Agent}
use Rattle.crowd_data.specs.declared.segment.Segment.{Segment}
use Rattle.crowd_data.specs.declared.post.ScriptPost.{ScriptPost}
use Rattle.crowd_data.specs.declared.post.Goal.{Goal}
use Rattle.crowd_data.specs.declared.post.Post.{Post}
use Rattle.crowd_data.specs.declared.limits.TheConstants.{FINE_RING, GREATEST_CONTROLLER, GREATEST_COORDINATE, GREATEST_HORIZON, GREATEST_RADIUS, GREATEST_RANGE, GREATEST_SPEED, GREATEST_WEIGHT, MOST_NEIGHBOURS, PLAIN_RING}

-- the versions of scenarios
abbrev pub IsVersion : ℕ → Type 0
IsVersion version = (version ≡ 1) ⊎ (version ≡ 2)

-- the rings of speed polygons, by their counts of points
abbrev pub plain_ring : ℕ
plain_ring = PLAIN_RING

abbrev pub fine_ring : ℕ
fine_ring = FINE_RING

abbrev pub IsRing : ℕ → Type 0
IsRing ring = (ring ≡ plain_ring) ⊎ (ring ≡ fine_ring)

-- each coordinate is at most so large in size
abbrev pub IsWithin : V2 → ℕ → Type 0
IsWithin v most = (unsigned_abs v.x ≤ most) × (unsigned_abs v.y ≤ most)

-- a starting position, the end of a segment or a goal
abbrev pub IsPosition : V2 → Type 0
IsPosition v = IsWithin v GREATEST_COORDINATE

-- a velocity or a preferred velocity
abbrev pub IsVelocity : V2 → Type 0
IsVelocity v = IsWithin v GREATEST_SPEED

-- the weight by which an agent gives way
abbrev pub IsWeight : ℕ → Type 0
IsWeight weight = (1 ≤ weight) × (weight ≤ GREATEST_WEIGHT)

-- the most neighbours that an agent may consider
abbrev pub most_neighbours : ℕ
most_neighbours = MOST_NEIGHBOURS

-- an agent's sizes, speed, look-out and weight, wherever it is
pub record IsBuild (agent : Agent) : Type 0 where
  pub some_radius : 1 ≤ agent.radius
  pub radius : agent.radius ≤ GREATEST_RADIUS
  pub speed : agent.speed ≤ GREATEST_SPEED
  pub range : agent.range ≤ GREATEST_RANGE
  pub most : agent.most ≤ most_neighbours
  pub some_horizon : 1 ≤ agent.horizon
  pub horizon : agent.horizon ≤ GREATEST_HORIZON
  pub some_wall_horizon : 1 ≤ agent.wall_horizon
  pub wall_horizon : agent.wall_horizon ≤ GREATEST_HORIZON
  pub weight : IsWeight agent.weight

-- an agent of a scenario
pub record IsAgent (agent : Agent) : Type 0 where
  pub pos : IsPosition agent.pos
  pub vel : IsVelocity agent.vel
  pub pref : IsVelocity agent.pref
  pub build : IsBuild agent

-- a segment of a scenario
pub record IsSegment (segment : Segment) : Type 0 where
  pub a : IsPosition segment.a
  pub b : IsPosition segment.b

-- a scripted post of a scenario with so many steps and agents
pub record IsScriptPost (steps agents : ℕ) (post : ScriptPost) : Type 0 where
  pub some_frame : 1 ≤ post.frame
  pub frame : post.frame ≤ steps
  pub agent : post.agent < agents
  pub vel : IsVelocity post.vel

-- a post for one of so many agents
pub record IsPost (agents : ℕ) (post : Post) : Type 0 where
  pub agent : post.agent < agents
  pub vel : IsVelocity post.vel

-- a goal of a scenario with so many agents
pub record IsGoal (agents : ℕ) (goal : Goal) : Type 0 where
  pub controller : goal.controller ≤ GREATEST_CONTROLLER
  pub agent : goal.agent < agents
  pub at : IsPosition goal.at
  pub pace : goal.pace ≤ GREATEST_SPEED
