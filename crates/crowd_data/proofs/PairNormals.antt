-- Normals of the half-planes of a pair.
use Rattle.std.proofs.Common.{◌≡◌, Bool, true, false, cond, refl, arith, pos, ◌<ℤ◌}
use Rattle.std.specs.Ordering.{int_eq}
use Rattle.std.proofs.lemmas.Int.{ints}
use Rattle.exact_algebra.proofs.Tests.{eq_false}
use Rattle.fixed_vec.specs.declared.vector.V2.{V2}
use Rattle.fixed_vec.specs.Vector.{minus, square}
use Rattle.fixed_vec.proofs.Squares.{square_some}
use Rattle.crowd_data.specs.declared.pair.Disc.{Disc}
use Rattle.crowd_data.specs.Pairs.{overlap_normal, relative_position, relative_velocity}

-- the way out of an overlap isn't zero
pub overlap_normal-nonzero : (low high : Disc) → pos 0 <ℤ square (overlap_normal low high)
overlap_normal-nonzero low high = by (minus (relative_velocity low high) (relative_position low high)) (int_eq (square (minus (relative_velocity low high) (relative_position low high))) (pos 0)) refl
  where
    by : (u : V2) (b : Bool) → int_eq (square u) (pos 0) ≡ b → pos 0 <ℤ square (cond b (record { x = pos 1; y = pos 0 }) u)
    by u true e = omega (arith, ints)
    by u false e = let s = square_some u in let f = eq_false (square u) (pos 0) e in omega (arith, ints)
