use Rattle.std.proofs.Common.{arith}
use Rattle.std.proofs.lemmas.Int.{ints}
use Rattle.agent_kdtree.specs.Boxes.{IsNoHigher}
use Rattle.fixed_vec.specs.declared.vector.V2.{V2}
use Rattle.agent_step.proofs.extent.widened.Goals as goal

along : (a b c : V2) → IsNoHigher a b → IsNoHigher b c → IsNoHigher a c
along a b c h k = record { x = omega (arith, ints, h.x, k.x); y = omega (arith, ints, h.y, k.y) }

pub returns-clause-own : goal.returns-clause-own
returns-clause-own c = record {
  low_a = along _ _ _ c.low_corner.ensures.second c.low_corner-low.ensures.first;
  low_b = along _ _ _ c.low_corner.ensures.second c.low_corner-low.ensures.second;
  high_a = along _ _ _ c.high_corner-high.ensures.first c.high_corner.ensures.second;
  high_b = along _ _ _ c.high_corner-high.ensures.second c.high_corner.ensures.second;
}

pub returns-clause-others : goal.returns-clause-others
returns-clause-others c = λ s h. record {
  low_a = along _ _ _ c.low_corner.ensures.first h.low_a;
  low_b = along _ _ _ c.low_corner.ensures.first h.low_b;
  high_a = along _ _ _ h.high_a c.high_corner.ensures.first;
  high_b = along _ _ _ h.high_b c.high_corner.ensures.first;
}
