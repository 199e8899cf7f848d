-- Half-planes whose offset is so many lengths of their normal keep their bounds.
use Rattle.std.proofs.Common.{ℕ, ◌+◌, ◌*◌, ◌^◌, ◌<◌, ◌≤◌, arith, pos, ◌-ℤ◌, ◌*ℤ◌, ◌≤ℤ◌, ◌<ℤ◌, unsigned_abs, mul-le-mul}
use Rattle.std.proofs.lemmas.Int.{ints}
use Rattle.fixed_vec.specs.declared.vector.V2.{V2}
use Rattle.fixed_vec.specs.Vector.{square}
use Rattle.fixed_vec.specs.HalfPlane.{FitsPlane, Plane, drawn_of, relieved_of, whole_length}
use Rattle.fixed_vec.proofs.Lengths.{coordinates_le, length_le}
use Rattle.pair_plane.specs.Sized.{Sized}

-- such a normal is at most 2^32 long
pub length_fits : (n : V2) → square n <ℤ pos (2 ^ 64) → whole_length n ≤ 2 ^ 32
length_fits n h = length_le n (2 ^ 32) (omega (arith, ints))

pub fits_sized : (plane : Plane) (k : ℕ) → k ≤ 2 ^ 20 → Sized plane k → FitsPlane plane
fits_sized plane k most h = record {
  nonzero = h.nonzero;
  normal = h.normal;
  offset = omega (arith, h.offset, mul-le-mul most (length_fits plane.n h.normal));
}

-- drawing in takes one length at most
pub drawn_sized : (plane : Plane) (k : ℕ) → Sized plane k → Sized (drawn_of plane) (k + 1)
drawn_sized plane k h = record {
  nonzero = h.nonzero;
  normal = h.normal;
  offset = by (whole_length plane.n) (coordinates_le plane.n).0 (coordinates_le plane.n).1 h.offset;
}
  where
    by : (l : ℕ) → unsigned_abs plane.n.x ≤ l → unsigned_abs plane.n.y ≤ l → unsigned_abs plane.c ≤ k * l → unsigned_abs (drawn_of plane).c ≤ (k + 1) * l
    by l p q r = omega (arith, ints)

-- and a relief as many as it says
pub relieved_sized : (plane : Plane) (k relief : ℕ) → Sized plane k → Sized (relieved_of plane relief) (k + relief)
relieved_sized plane k relief h = record {
  nonzero = h.nonzero;
  normal = h.normal;
  offset = by (whole_length plane.n) h.offset;
}
  where
    by : (l : ℕ) → unsigned_abs plane.c ≤ k * l → unsigned_abs (plane.c -ℤ pos (relief * l)) ≤ (k + relief) * l
    by l p = omega (arith, ints)

-- ---- a share: at most 200,584 lengths off, so at most 200,585 once it is drawn in

pub share_fits : (plane : Plane) → Sized plane 200584 → FitsPlane plane
share_fits plane h = fits_sized plane 200584 (omega arith) h

pub share_drawn_fits : (plane : Plane) → Sized plane 200584 → FitsPlane (drawn_of plane)
share_drawn_fits plane h = fits_sized (drawn_of plane) 200585 (omega arith) (drawn_sized plane 200584 h)

pub share_relieved_fits : (plane : Plane) (relief : ℕ) → Sized plane 200584 → relief < 2 ^ 18 → FitsPlane (relieved_of (drawn_of plane) relief)
share_relieved_fits plane relief h below =
    fits_sized (relieved_of (drawn_of plane) relief) (200585 + relief) (omega arith) (relieved_sized (drawn_of plane) 200585 relief (drawn_sized plane 200584 h))

pub share_offset_le : (plane : Plane) → Sized plane 200584 → (drawn_of plane).c ≤ℤ (pos 200585 *ℤ pos (whole_length plane.n))
share_offset_le plane h = let k = (drawn_sized plane 200584 h).offset in omega (arith, ints)
