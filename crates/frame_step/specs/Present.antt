-- A run up to its present frame, and what its steps need.
use Rattle.std.specs.Prelude.{◌≡◌, ℕ, ◌+◌, ◌≤◌, List, length}
use Rattle.fixed_vec.specs.HalfPlane.{Plane}
use Rattle.fixed_vec.specs.Held.{Held}
use Rattle.crowd_data.specs.declared.frame.Body.{Body}
use Rattle.crowd_data.specs.declared.pair.Place.{Place}
use Rattle.crowd_data.specs.Present.{IsPresent}
use Rattle.crowd_data.specs.Run.{Snapshot}
use Rattle.crowd_data.specs.Scenario.{IsValid, Parts}
use Rattle.agent_kdtree.specs.declared.tree.Tree.{Tree}
use Rattle.agent_kdtree.specs.Stands.{HasRoomFor}
use Rattle.agent_step.specs.declared.wall_blocks.WallBlocks.{WallBlocks}
use Rattle.agent_step.specs.Frozen.{polygons_of}
use Rattle.agent_step.specs.WallBlocks.{StandsForWalls}
use Rattle.frame_step.specs.declared.team.Team.{Team}
use Rattle.frame_step.specs.Workers.{IsTeam}

-- a run up to its present frame
pub record Course : Type 0 where
  pub scenario : Parts
  pub frame : Snapshot

-- a list that takes so many items in all without asking for memory
abbrev pub Holds : {A : Type 0} → ℕ → Held A → Type 0
Holds count list = count ≤ length list.items + list.spare

-- all that the steps of a run need was taken beforehand
pub record IsReady (scenario : Parts) (frame : Snapshot) (made : List (List Plane)) (blocks : WallBlocks) (next : Held Body) (stand : Held Place) (index : Tree) (team : Team) : Type 0 where
  pub valid : IsValid scenario
  pub present : IsPresent scenario frame
  pub polygons : made ≡ polygons_of scenario
  pub walls : StandsForWalls blocks scenario.segments
  pub bodies : length next.items ≡ length scenario.agents
  pub places : Holds (length scenario.agents) stand
  pub tree : HasRoomFor index (length scenario.agents)
  pub workers : IsTeam scenario frame.number team
