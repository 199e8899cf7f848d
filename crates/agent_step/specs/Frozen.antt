-- The one state that all advice of a step is taken from.
use Rattle.std.specs.Prelude.{◌≡◌, ◌≤◌, ℕ, ◌+◌, pos, ◌*ℤ◌, ◌≤ℤ◌, List, map}
use Rattle.fixed_vec.specs.declared.vector.V2.{V2}
use Rattle.fixed_vec.specs.HalfPlane.{Plane}
use Rattle.fixed_vec.specs.Vector.{square}
use Rattle.crowd_data.specs.declared.agent.Agent.{Agent}
use Rattle.crowd_data.specs.declared.pair.Place.{Place}
use Rattle.crowd_data.specs.Advice.{place_of}
use Rattle.crowd_data.specs.Limits.{IsVelocity, fine_ring, most_neighbours}
use Rattle.crowd_data.specs.Present.{IsPresent}
use Rattle.crowd_data.specs.RingPlanes.{ring_planes}
use Rattle.crowd_data.specs.Run.{Snapshot, crowd_of}
use Rattle.crowd_data.specs.Scenario.{Parts}
use Rattle.planar_program.specs.declared.relief.TheConstants.{GREATEST_RELIEF}
use Rattle.agent_kdtree.specs.declared.tree.Tree.{Tree}
use Rattle.agent_kdtree.specs.Stands.{StandsFor}
use Rattle.agent_step.specs.declared.wall_blocks.WallBlocks.{WallBlocks}
use Rattle.agent_step.specs.WallBlocks.{StandsForWalls}

-- a scenario and a frame of its run
pub record FrozenState : Type 0 where
  pub scenario : Parts
  pub frame : Snapshot

-- the agents as they stand in the frame
abbrev pub agents_in : FrozenState → List Agent
agents_in state = crowd_of state.scenario.agents state.frame.bodies

-- the speed polygons of all agents, in order of number
abbrev pub polygons_of : Parts → List (List Plane)
polygons_of scenario = map (λ (agent : Agent). ring_planes scenario.ring agent.speed) scenario.agents

-- the most half-planes that an agent can have among so many segments: one each, one for each neighbour, and those of
-- the larger speed polygon
abbrev pub most_planes : ℕ → ℕ
most_planes segments = segments + most_neighbours + fine_ring

-- a frame of a scenario's run, with the speed polygons of its agents, its walls by blocks, the places of the agents in
-- the frame and a tree over these
pub record IsFrozen (scenario : Parts) (frame : Snapshot) (made : List (List Plane)) (blocks : WallBlocks) (standing : List Place) (index : Tree) : Type 0 where
  pub present : IsPresent scenario frame
  pub polygons : made ≡ polygons_of scenario
  pub walls : StandsForWalls blocks scenario.segments
  pub places : standing ≡ map place_of (crowd_of scenario.agents frame.bodies)
  pub tree : StandsFor index standing

-- a velocity within the limits and no longer than a speed, and a relief up to the greatest one
pub record KeepsLimits (most : ℕ) (vel : V2) (given : ℕ) : Type 0 where
  pub slow : IsVelocity vel
  pub speed : square vel ≤ℤ (pos most *ℤ pos most)
  pub relief : given ≤ GREATEST_RELIEF
