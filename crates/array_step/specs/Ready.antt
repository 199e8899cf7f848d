-- What the first step of a scenario needs.
use Rattle.std.specs.Prelude.{◌≡◌, ℕ, ◌≤◌, List, length}
use Rattle.fixed_vec.specs.HalfPlane.{Plane}
use Rattle.crowd_data.specs.declared.pair.Place.{Place}
use Rattle.crowd_data.specs.Run.{Snapshot, start_of}
use Rattle.crowd_data.specs.Scenario.{IsValid, Parts}
use Rattle.agent_kdtree.specs.declared.tree.Tree.{Tree}
use Rattle.agent_step.specs.declared.wall_blocks.WallBlocks.{WallBlocks}
use Rattle.agent_step.specs.Frozen.{IsFrozen, most_planes}

-- a valid scenario with its frame 0, what its advice is taken from, and room for the half-planes of one agent
pub record IsReady (scenario : Parts) (frame : Snapshot) (made : List (List Plane)) (blocks : WallBlocks) (stand : List Place) (index : Tree) (room : ℕ) : Type 0 where
  pub valid : IsValid scenario
  pub start : frame ≡ start_of scenario
  pub frozen : IsFrozen scenario frame made blocks stand index
  pub planes : most_planes (length scenario.segments) ≤ room
