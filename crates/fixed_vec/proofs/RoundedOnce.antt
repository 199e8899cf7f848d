-- Points of one value round to one whole point.
use Rattle.std.proofs.Common.{◌≡◌, sym, [], ◌∷◌, arith, ℤ, pos, ◌+ℤ◌, ◌-ℤ◌, ◌*ℤ◌, ◌≤ℤ◌, ◌<ℤ◌}
use Rattle.std.proofs.lemmas.Int.{ints, by_lt_z}
use Rattle.exact_algebra.specs.Numbers.{floor}
use Rattle.exact_algebra.proofs.Ring.{quotes, equal}
use Rattle.exact_algebra.proofs.Order.{product_nonneg, gap_nonneg}
use Rattle.exact_algebra.proofs.Rounding.{floor_le, floor_gt}
use Rattle.exact_algebra.proofs.Sizes.{product_positive}
use Rattle.fixed_vec.specs.Point.{Rational, IsPoint, rounded_of}

-- the two points have one value
pub record IsSame (p v : Rational) : Type 0 where
  pub across : p.x *ℤ v.q ≡ v.x *ℤ p.q
  pub along : p.y *ℤ v.q ≡ v.y *ℤ p.q

-- r is at most the floor of one quotient, s at least that of the other, and the quotients are equal
rounds-le : (x q u d r s : ℤ) → pos 0 <ℤ q → pos 0 <ℤ d → x *ℤ d ≡ u *ℤ q → (r *ℤ (pos 2 *ℤ q)) ≤ℤ (pos 2 *ℤ x +ℤ q) → (pos 2 *ℤ u +ℤ d) <ℤ (s *ℤ (pos 2 *ℤ d) +ℤ pos 2 *ℤ d) → r ≤ℤ s
rounds-le x q u d r s hq hd same low high = by_lt_z s r
    (λ less.
    let wq : pos 0 ≤ℤ q = omega (arith, ints) in
    let wd : pos 0 ≤ℤ d = omega (arith, ints) in
    let a = product_nonneg d (pos 2 *ℤ x +ℤ q -ℤ r *ℤ (pos 2 *ℤ q)) wd (gap_nonneg _ _ low) in
    let b = product_positive q (s *ℤ (pos 2 *ℤ d) +ℤ pos 2 *ℤ d -ℤ (pos 2 *ℤ u +ℤ d)) hq (omega (arith, ints)) in
    let c = product_nonneg (r -ℤ (s +ℤ pos 1)) (pos 2 *ℤ (q *ℤ d)) (omega (arith, ints)) (product_nonneg (pos 2) (q *ℤ d) (omega (arith, ints)) (product_nonneg q d wq wd)) in
    let total : d *ℤ (pos 2 *ℤ x +ℤ q -ℤ r *ℤ (pos 2 *ℤ q)) +ℤ q *ℤ (s *ℤ (pos 2 *ℤ d) +ℤ pos 2 *ℤ d -ℤ (pos 2 *ℤ u +ℤ d)) +ℤ (r -ℤ (s +ℤ pos 1)) *ℤ (pos 2 *ℤ (q *ℤ d)) ≡ (x *ℤ d -ℤ u *ℤ q) +ℤ (x *ℤ d -ℤ u *ℤ q) =
    equal (x ∷ q ∷ u ∷ d ∷ r ∷ s ∷ []) (search quotes depth 40 fits 20000) tt in
    absurd (omega (arith, ints)))
    (λ h. h)

rounds-same : (x q u d : ℤ) → pos 0 <ℤ q → pos 0 <ℤ d → x *ℤ d ≡ u *ℤ q → floor (pos 2 *ℤ x +ℤ q) (pos 2 *ℤ q) ≡ floor (pos 2 *ℤ u +ℤ d) (pos 2 *ℤ d)
rounds-same x q u d hq hd same =
    let two_q : pos 0 <ℤ (pos 2 *ℤ q) = omega (arith, ints) in
    let two_d : pos 0 <ℤ (pos 2 *ℤ d) = omega (arith, ints) in
    antisymmetric (floor (pos 2 *ℤ x +ℤ q) (pos 2 *ℤ q)) (floor (pos 2 *ℤ u +ℤ d) (pos 2 *ℤ d))
    (rounds-le x q u d _ _ hq hd same (floor_le (pos 2 *ℤ x +ℤ q) (pos 2 *ℤ q) two_q) (floor_gt (pos 2 *ℤ u +ℤ d) (pos 2 *ℤ d) two_d))
    (rounds-le u d x q _ _ hd hq (sym same) (floor_le (pos 2 *ℤ u +ℤ d) (pos 2 *ℤ d) two_d) (floor_gt (pos 2 *ℤ x +ℤ q) (pos 2 *ℤ q) two_q))
  where
    antisymmetric : (r s : ℤ) → r ≤ℤ s → s ≤ℤ r → r ≡ s
    antisymmetric r s h k = omega (arith, ints)

-- points of one value round to one whole point
pub rounded-same : (p v : Rational) → IsPoint p → IsPoint v → IsSame p v → rounded_of p ≡ rounded_of v
rounded-same p v hp hv same = λ i. record { x = rounds-same p.x p.q v.x v.q hp hv same.across i; y = rounds-same p.y p.q v.y v.q hp hv same.along i }
