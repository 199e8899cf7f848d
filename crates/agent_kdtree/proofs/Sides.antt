-- Coordinates of corners, as the code has them.
use Rattle.std.proofs.Common.{◌≡◌, ◌<◌, ◌^◌, arith, ℤ, unsigned_abs, FitsSigned, w64, to_z, of_z, to_z-of_z}
use Rattle.std.specs.Int.{int_min, int_max}
use Rattle.std.proofs.lemmas.Int.{ints, fits_signed_from_abs}

-- what a field that a call gave is
pub kept : (z : ℤ) → unsigned_abs z < 2 ^ 31 → to_z w64 (of_z w64 z) ≡ z
kept z h = let f : FitsSigned w64 z = fits_signed_from_abs w64 z (omega arith) in to_z-of_z f

pub min_small : (a b r : ℤ) → r ≡ int_min (to_z w64 (of_z w64 a)) (to_z w64 (of_z w64 b)) → unsigned_abs a < 2 ^ 31 → unsigned_abs b < 2 ^ 31 → unsigned_abs (to_z w64 (of_z w64 r)) < 2 ^ 31
min_small a b r e h k =
    let f : r ≡ int_min a b = rw (kept a h, kept b k) at e in
    let s : unsigned_abs r < 2 ^ 31 = small_min a b r f h k in
    rw (kept r s) s
  where
    small_min : (a b r : ℤ) → r ≡ int_min a b → unsigned_abs a < 2 ^ 31 → unsigned_abs b < 2 ^ 31 → unsigned_abs r < 2 ^ 31
    small_min a b r e h k = grind (arith, ints)

pub max_small : (a b r : ℤ) → r ≡ int_max (to_z w64 (of_z w64 a)) (to_z w64 (of_z w64 b)) → unsigned_abs a < 2 ^ 31 → unsigned_abs b < 2 ^ 31 → unsigned_abs (to_z w64 (of_z w64 r)) < 2 ^ 31
max_small a b r e h k =
    let f : r ≡ int_max a b = rw (kept a h, kept b k) at e in
    let s : unsigned_abs r < 2 ^ 31 = small_max a b r f h k in
    rw (kept r s) s
  where
    small_max : (a b r : ℤ) → r ≡ int_max a b → unsigned_abs a < 2 ^ 31 → unsigned_abs b < 2 ^ 31 → unsigned_abs r < 2 ^ 31
    small_max a b r e h k = grind (arith, ints)
