use Rattle.std.proofs.Common.{arith}
use Rattle.std.proofs.lemmas.Int.{ints}
use Rattle.agent_kdtree.proofs.bounds.union.Goals as goal

pub returns-clause-bounds : goal.returns-clause-bounds
returns-clause-bounds c = record {
  low = c.low_corner-low.ensures.inside;
  high = c.high_corner-high.ensures.inside;
  greatest_reach = omega arith;
}

pub returns-clause-first : goal.returns-clause-first
returns-clause-first c = λ p h. record {
  within = record {
    left = omega (arith, ints);
    right = omega (arith, ints);
    below = omega (arith, ints);
    above = omega (arith, ints);
  };
  greatest_reach = omega arith;
}

pub returns-clause-second : goal.returns-clause-second
returns-clause-second c = λ p h. record {
  within = record {
    left = omega (arith, ints);
    right = omega (arith, ints);
    below = omega (arith, ints);
    above = omega (arith, ints);
  };
  greatest_reach = omega arith;
}
