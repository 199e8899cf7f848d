use Rattle.std.proofs.Common.{◌≡◌, ℕ, ◌*◌, ◌≤◌, arith, mul-le-mul}
use Rattle.std.proofs.lemmas.Int.{ints}
use Rattle.std.proofs.lemmas.Nat.{mul-lt}
use Rattle.exact_algebra.specs.Numbers.{ceil_root}
use Rattle.exact_algebra.proofs.Rounding.{ceil_root_is}
use Rattle.geometry_tests.proofs.separation.laws_hold_of_worked_pairs.Goals as goal

-- a number is the root of its square
root : (r : ℕ) → ceil_root (r * r) ≡ r
root r = ceil_root_is (r * r) r (omega arith) (λ j h. mul-lt j j r r h h)

pub pair_apart-requires-clause-low_share : goal.pair_apart-requires-clause-low_share
pair_apart-requires-clause-low_share c = rw (root 6000) (omega (arith, ints))

pub pair_apart-requires-clause-high_share : goal.pair_apart-requires-clause-high_share
pair_apart-requires-clause-high_share c = rw (root 6000) (omega (arith, ints))

-- the leg, whose square is 8,000,000
leg : ceil_root 8000001 ≡ 2829
leg = ceil_root_is 8000001 2829 (omega arith) (λ j h. let k : j ≤ 2828 = omega arith in omega (arith, mul-le-mul k k))

pub pair_apart-requires-2-clause-low_share : goal.pair_apart-requires-2-clause-low_share
pair_apart-requires-2-clause-low_share c = rw leg (omega (arith, ints))

pub pair_apart-requires-2-clause-high_share : goal.pair_apart-requires-2-clause-high_share
pair_apart-requires-2-clause-high_share c = rw leg (omega (arith, ints))

pub pair_apart_at_end-requires-clause-low_share : goal.pair_apart_at_end-requires-clause-low_share
pair_apart_at_end-requires-clause-low_share c = rw (root 1) (omega (arith, ints))

pub pair_apart_at_end-requires-clause-high_share : goal.pair_apart_at_end-requires-clause-high_share
pair_apart_at_end-requires-clause-high_share c = rw (root 1) (omega (arith, ints))

pub pair_apart_at_end-requires-2-clause-low_share : goal.pair_apart_at_end-requires-2-clause-low_share
pair_apart_at_end-requires-2-clause-low_share c = rw (root 1) (omega (arith, ints))

pub pair_apart_at_end-requires-2-clause-high_share : goal.pair_apart_at_end-requires-2-clause-high_share
pair_apart_at_end-requires-2-clause-high_share c = rw (root 1) (omega (arith, ints))
