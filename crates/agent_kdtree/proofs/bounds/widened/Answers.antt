use Rattle.std.proofs.Common.{arith}
use Rattle.std.proofs.lemmas.Int.{ints}
use Rattle.agent_kdtree.proofs.bounds.widened.Goals as goal

pub returns-clause-bounds : goal.returns-clause-bounds
returns-clause-bounds c = record {
  low = c.low_corner-low.ensures.inside;
  high = c.high_corner-high.ensures.inside;
  greatest_reach = omega arith;
}

pub returns-clause-place : goal.returns-clause-place
returns-clause-place c = record {
  within = record {
    left = c.low_corner-low.ensures.second.x;
    right = c.high_corner-high.ensures.second.x;
    below = c.low_corner-low.ensures.second.y;
    above = c.high_corner-high.ensures.second.y;
  };
  greatest_reach = omega arith;
}

pub returns-clause-others : goal.returns-clause-others
returns-clause-others c = λ p h. record {
  within = record {
    left = omega (arith, ints);
    right = omega (arith, ints);
    below = omega (arith, ints);
    above = omega (arith, ints);
  };
  greatest_reach = omega arith;
}
