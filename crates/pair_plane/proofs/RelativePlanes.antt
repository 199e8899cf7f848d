-- The relative plane of a pair is at most 131,072 lengths off, in each region.
use Rattle.std.proofs.Common.{◌≡◌, ℕ, ◌+◌, ◌*◌, ◌^◌, ◌≤◌, Bool, true, false, cond, subst, arith, ℤ, pos, ◌+ℤ◌, ◌*ℤ◌, ◌≤ℤ◌, ◌<ℤ◌, unsigned_abs, mul-le-mul}
use Rattle.std.proofs.lemmas.Int.{ints, by_lt_z}
use Rattle.std.specs.Ordering.{int_eq}
use Rattle.fixed_vec.specs.declared.vector.V2.{V2}
use Rattle.fixed_vec.specs.Vector.{IsBelow, dot, minus, square}
use Rattle.fixed_vec.specs.HalfPlane.{FitsPlane, whole_length}
use Rattle.crowd_data.specs.declared.pair.Disc.{Disc}
use Rattle.crowd_data.specs.Limits.{IsWithin}
use Rattle.crowd_data.specs.declared.pair.Region.{Region}
use Rattle.crowd_data.specs.declared.pair.Region.TheVariants.{Arc, Overlap}
use Rattle.crowd_data.specs.Pairs.{IsPair, from_cutoff, held_off, relative_position, overlap_normal, region_of, relative_in, relative_plane, relative_velocity}
use Rattle.crowd_data.proofs.PairNormals.{overlap_normal-nonzero}
use Rattle.crowd_data.specs.declared.limits.TheConstants.{GREATEST_SPEED}
use Rattle.pair_plane.proofs.Legs.{left_sized, right_sized}
use Rattle.fixed_vec.proofs.Lengths.{length_le}
use Rattle.pair_plane.proofs.Lengths.{dot_le, square_le}
use Rattle.pair_plane.proofs.Parts.{ceil_abs}
use Rattle.pair_plane.proofs.Regions.{region_cases}
use Rattle.pair_plane.specs.Sized.{Sized}
use Rattle.pair_plane.proofs.Sized.{fits_sized}
use Rattle.pair_plane.proofs.Sizes.{cutoff_small, offset_small, velocity_within}

-- the border of the disc of the combined radius is as far off as the offset and the radius together
held_le : (low high : Disc) (tau : ℕ) (n : V2) → IsPair low high tau → unsigned_abs (held_off low high n) ≤ 131072 * whole_length n
held_le low high tau n h =
    by (whole_length n) (dot n (relative_position low high)) (low.radius + high.radius) (omega (arith, h.low_radius, h.high_radius)) (dot_le n (relative_position low high) 65536 (omega (arith, ints, h.near)))
  where
    by : (l : ℕ) (d : ℤ) (r : ℕ) → r ≤ 65536 → unsigned_abs d ≤ 65536 * l → unsigned_abs (d +ℤ pos r *ℤ pos l) ≤ 131072 * l
    by l d r small p = let q : r * l ≤ 65536 * l = mul-le-mul small (omega arith) in omega (arith, ints)

within : (n : V2) (b : ℕ) → IsBelow n b → IsWithin n b
within n b h = (omega arith, omega arith)

overlap_normal_small : (low high : Disc) (tau : ℕ) → IsPair low high tau → IsBelow (overlap_normal low high) (2 ^ 17)
overlap_normal_small low high tau h =
    by (int_eq (square (minus (relative_velocity low high) (relative_position low high))) (pos 0)) (offset_small low high tau h) (velocity_within low high tau h)
  where
    by : (b : Bool) → IsBelow (relative_position low high) (2 ^ 16) → IsWithin (relative_velocity low high) (2 * GREATEST_SPEED)
        → IsBelow (cond b (record { x = pos 1; y = pos 0 }) (minus (relative_velocity low high) (relative_position low high))) (2 ^ 17)
    by true p w = (omega arith, omega arith)
    by false p w = (omega (arith, ints), omega (arith, ints))

pub overlap_sized : (low high : Disc) (tau : ℕ) → IsPair low high tau → Sized (relative_in low high tau Overlap) 131072
overlap_sized low high tau h = record {
  nonzero = overlap_normal-nonzero low high;
  normal = omega (arith, ints, square_le (overlap_normal low high) (2 ^ 17) (within (overlap_normal low high) (2 ^ 17) (overlap_normal_small low high tau h)));
  offset = held_le low high tau (overlap_normal low high) h;
}

-- a vector that turns against another one isn't zero
nonzero_against : (n v : V2) (b : ℕ) → square v ≤ℤ pos (b * b) → dot n v <ℤ pos 0 → pos 0 <ℤ square n
nonzero_against n v b h k = by_lt_z (pos 0) (square n) (λ some. some) (λ none.
    let l = length_le n 0 none in
    let o : b * whole_length n ≤ b * 0 = mul-le-mul (omega arith) l in
    absurd (omega (arith, ints, dot_le n v b h)))

pub arc_sized : (low high : Disc) (tau : ℕ) → IsPair low high tau → dot (from_cutoff low high tau) (relative_position low high) <ℤ pos 0 → Sized (relative_in low high tau Arc) 131072
arc_sized low high tau h against = record {
  nonzero = nonzero_against (from_cutoff low high tau) (relative_position low high) 65536 (omega (arith, ints, h.near)) against;
  normal = omega (arith, ints, square_le (from_cutoff low high tau) (2 ^ 28) (within (from_cutoff low high tau) (2 ^ 28) (cutoff_small low high tau h)));
  offset = omega (arith, held_le low high tau (from_cutoff low high tau) h, ceil_abs (held_off low high (from_cutoff low high tau)) (pos tau) (omega (arith, ints, h.some_tau)));
}

pub relative_sized : (low high : Disc) (tau : ℕ) → IsPair low high tau → Sized (relative_plane low high tau) 131072
relative_sized low high tau h = region_cases low high tau (λ region. Sized (relative_in low high tau region) 131072)
    (overlap_sized low high tau h) (arc_sized low high tau h) (left_sized low high tau h) (right_sized low high tau h)

-- so it keeps its bounds
pub relative_fits : (low high : Disc) (tau : ℕ) (region : Region) → IsPair low high tau → region_of low high tau ≡ region → FitsPlane (relative_in low high tau region)
relative_fits low high tau region h e =
    subst (λ r. FitsPlane (relative_in low high tau r)) e (fits_sized _ 131072 (omega arith) (relative_sized low high tau h))
