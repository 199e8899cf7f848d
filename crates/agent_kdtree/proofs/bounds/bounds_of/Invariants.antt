use Rattle.std.proofs.Common.{take}
use Rattle.agent_kdtree.specs.Boxes.{IsBounds, CoversAll}
use Rattle.agent_kdtree.proofs.bounds.bounds_of.Given as goal

abbrev pub invariant-loop-k : goal.invariant-loop-k
invariant-loop-k l = record {
  bounds : IsBounds l.bounds;
  covers : CoversAll l.bounds l.places (take l.k-index l.order);
}
