use Rattle.std.proofs.Common.{take}
use Rattle.std.specs.List.{All}
use Rattle.agent_step.specs.WallBlocks.{IsAround}
use Rattle.agent_step.proofs.extent.extent_of.Given as goal

abbrev pub invariant-loop-segment : goal.invariant-loop-segment
invariant-loop-segment l = All (IsAround l.extent) (take l.segment-index l.segments)
