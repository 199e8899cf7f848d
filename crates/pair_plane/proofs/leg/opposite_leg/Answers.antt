use Rattle.std.proofs.Common.{◌-ℤ◌, FitsSigned, pos, w64, arith, to_z-of_z}
use Rattle.std.proofs.lemmas.Int.{ints}
use Rattle.pair_plane.proofs.leg.opposite_leg.Goals as goal

pub overflow_sub-result : goal.overflow_sub-result
overflow_sub-result c = let s = c.leg_length.ensures.small in omega (arith, ints)

pub returns-clause-value : goal.returns-clause-value
returns-clause-value c =
    let s = c.leg_length.ensures.small in
    let f : FitsSigned w64 c.leg_length.result = omega (arith, ints) in
    let g : FitsSigned w64 (pos 0 -ℤ c.leg_length.result) = omega (arith, ints) in
    simp to_z-of_z (omega (arith, ints, c.leg_length.ensures.value))

pub returns-clause-small : goal.returns-clause-small
returns-clause-small c = let s = c.leg_length.ensures.small in omega (arith, ints)
