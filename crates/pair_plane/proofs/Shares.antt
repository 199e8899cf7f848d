-- The shares of a pair are at most 200,584 lengths off.
use Rattle.std.proofs.Common.{ℕ, sym, subst, ◌*◌, ◌^◌, ◌<◌, ◌≤◌, arith, ℤ, pos, neg_ℤ, ◌+ℤ◌, ◌-ℤ◌, ◌<ℤ◌, unsigned_abs}
use Rattle.std.proofs.lemmas.Int.{ints}
use Rattle.exact_algebra.specs.Numbers.{ceil_root}
use Rattle.fixed_vec.specs.declared.vector.V2.{V2}
use Rattle.fixed_vec.specs.Vector.{dot}
use Rattle.fixed_vec.specs.HalfPlane.{whole_length}
use Rattle.fixed_vec.proofs.Squares.{square-opposite}
use Rattle.crowd_data.specs.declared.pair.Disc.{Disc}
use Rattle.crowd_data.specs.Limits.{IsVelocity}
use Rattle.crowd_data.specs.Pairs.{IsPair, higher_share, lack, lower_share, part_of, relative_plane, relative_velocity}
use Rattle.crowd_data.specs.declared.limits.TheConstants.{GREATEST_SPEED}
use Rattle.pair_plane.proofs.Lengths.{dot_le, square_le}
use Rattle.pair_plane.proofs.Parts.{part_abs, rest_abs}
use Rattle.pair_plane.proofs.RelativePlanes.{relative_sized}
use Rattle.pair_plane.specs.Sized.{Sized}
use Rattle.pair_plane.proofs.Sized.{length_fits}
use Rattle.pair_plane.proofs.Sizes.{velocity_within}

-- what is lacking
pub lack_le : (low high : Disc) (tau : ℕ) → IsPair low high tau → unsigned_abs (lack low high tau) ≤ 177413 * whole_length (relative_plane low high tau).n
lack_le low high tau h =
    by (relative_plane low high tau).c (dot (relative_plane low high tau).n (relative_velocity low high)) (whole_length (relative_plane low high tau).n)
    (relative_sized low high tau h).offset
    (dot_le (relative_plane low high tau).n (relative_velocity low high) 46341 (omega (arith, ints, square_le (relative_velocity low high) (2 * GREATEST_SPEED) (velocity_within low high tau h))))
  where
    by : (c d : ℤ) (l : ℕ) → unsigned_abs c ≤ 131072 * l → unsigned_abs d ≤ 46341 * l → unsigned_abs (c -ℤ d) ≤ 177413 * l
    by c d l p q = omega (arith, ints)

pub lack_small : (low high : Disc) (tau : ℕ) → IsPair low high tau → unsigned_abs (lack low high tau) < 2 ^ 50
lack_small low high tau h =
    let l = length_fits (relative_plane low high tau).n (relative_sized low high tau h).normal in
    omega (arith, lack_le low high tau h)

-- a velocity along a normal
along_le : (n v : V2) → IsVelocity v → unsigned_abs (dot n v) ≤ 23171 * whole_length n
along_le n v h = dot_le n v 23171 (omega (arith, ints, square_le v GREATEST_SPEED h))

pub lower_sized : (low high : Disc) (tau a b : ℕ) → IsPair low high tau → 1 ≤ b → Sized (lower_share low high tau a b) 200584
lower_sized low high tau a b h some = record {
  nonzero = (relative_sized low high tau h).nonzero;
  normal = (relative_sized low high tau h).normal;
  offset =
      by (dot (relative_plane low high tau).n low.vel) (lack low high tau) (part_of (lack low high tau) a b) (whole_length (relative_plane low high tau).n)
      (along_le (relative_plane low high tau).n low.vel h.low_vel) (lack_le low high tau h) (part_abs (lack low high tau) a b some);
}
  where
    by : (d g part : ℤ) (l : ℕ) → unsigned_abs d ≤ 23171 * l → unsigned_abs g ≤ 177413 * l → unsigned_abs part ≤ unsigned_abs g → unsigned_abs (d +ℤ part) ≤ 200584 * l
    by d g part l p q r = omega (arith, ints)

pub higher_sized : (low high : Disc) (tau a b : ℕ) → IsPair low high tau → 1 ≤ b → Sized (higher_share low high tau a b) 200584
higher_sized low high tau a b h some =
    let n = (relative_plane low high tau).n in
    let g = lack low high tau in
    record {
      nonzero = subst (λ z. pos 0 <ℤ z) (sym (square-opposite n)) (relative_sized low high tau h).nonzero;
      normal = subst (λ z. z <ℤ pos (2 ^ 64)) (sym (square-opposite n)) (relative_sized low high tau h).normal;
      offset =
          subst (λ z. unsigned_abs (higher_share low high tau a b).c ≤ 200584 * ceil_root (unsigned_abs z)) (sym (square-opposite n))
          (by (dot n high.vel) g (g -ℤ part_of g a b) (whole_length n) (along_le n high.vel h.high_vel) (lack_le low high tau h) (rest_abs g a b some));
    }
  where
    by : (d g rest : ℤ) (l : ℕ) → unsigned_abs d ≤ 23171 * l → unsigned_abs g ≤ 177413 * l → unsigned_abs rest ≤ unsigned_abs g → unsigned_abs (neg_ℤ d +ℤ rest) ≤ 200584 * l
    by d g rest l p q r = omega (arith, ints)
