-- The rounding of a small quotient is small.
use Rattle.std.proofs.Common.{◌^◌, [], ◌∷◌, arith, ℤ, pos, neg_ℤ, ◌+ℤ◌, ◌*ℤ◌, ◌≤ℤ◌, ◌<ℤ◌, unsigned_abs, FitsSigned, w64}
use Rattle.std.proofs.lemmas.Int.{ints}
use Rattle.exact_algebra.specs.Numbers.{floor}
use Rattle.exact_algebra.proofs.Ring.{quotes, shown}
use Rattle.exact_algebra.proofs.Order.{sum_nonneg, gap_nonneg, cancel}
use Rattle.exact_algebra.proofs.Rounding.{floor_le, floor_gt}

at_most : (x q k r : ℤ) → pos 0 <ℤ q → x ≤ℤ (q *ℤ k) → (r *ℤ (pos 2 *ℤ q)) ≤ℤ (pos 2 *ℤ x +ℤ q) → r ≤ℤ (k +ℤ pos 1)
at_most x q k r h high below = cancel r (k +ℤ pos 1) (pos 2 *ℤ q) (omega (arith, ints))
    (shown (x ∷ q ∷ k ∷ r ∷ [])
    (sum_nonneg _ _ (sum_nonneg _ _ (gap_nonneg _ _ high) (gap_nonneg _ _ high)) (sum_nonneg _ q (gap_nonneg _ _ below) (omega (arith, ints))))
    (search quotes depth 40 fits 9000) tt)

at_least : (x q k r : ℤ) → pos 0 <ℤ q → neg_ℤ (q *ℤ k) ≤ℤ x → (pos 2 *ℤ x +ℤ q) ≤ℤ (r *ℤ (pos 2 *ℤ q) +ℤ pos 2 *ℤ q) → neg_ℤ (k +ℤ pos 1) ≤ℤ r
at_least x q k r h low above = cancel (neg_ℤ (k +ℤ pos 1)) r (pos 2 *ℤ q) (omega (arith, ints))
    (shown (x ∷ q ∷ k ∷ r ∷ [])
    (sum_nonneg _ _ (sum_nonneg _ _ (gap_nonneg _ _ low) (gap_nonneg _ _ low)) (sum_nonneg _ q (gap_nonneg _ _ above) (omega (arith, ints))))
    (search quotes depth 40 fits 9000) tt)

pub nearest_fits : (x q : ℤ) → pos 0 <ℤ q → pos (unsigned_abs x) ≤ℤ (q *ℤ pos (2 ^ 32)) → FitsSigned w64 (floor (pos 2 *ℤ x +ℤ q) (pos 2 *ℤ q))
nearest_fits x q h near =
    let double : pos 0 <ℤ (pos 2 *ℤ q) = omega (arith, ints) in
    let a = floor_le (pos 2 *ℤ x +ℤ q) (pos 2 *ℤ q) double in
    let b = floor_gt (pos 2 *ℤ x +ℤ q) (pos 2 *ℤ q) double in
    by (floor (pos 2 *ℤ x +ℤ q) (pos 2 *ℤ q))
    (at_most x q (pos (2 ^ 32)) _ h (omega (arith, ints)) a)
    (at_least x q (pos (2 ^ 32)) _ h (omega (arith, ints)) (omega (arith, ints)))
  where
    by : (r : ℤ) → r ≤ℤ (pos (2 ^ 32) +ℤ pos 1) → neg_ℤ (pos (2 ^ 32) +ℤ pos 1) ≤ℤ r → FitsSigned w64 r
    by r high low = omega (arith, ints)
