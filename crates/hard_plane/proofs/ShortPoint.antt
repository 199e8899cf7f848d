-- A point no longer than k is near enough to be rounded, and its rounding is no longer than k + 1.
use Rattle.std.proofs.Common.{◌≡◌, ℕ, zero, suc, ◌-◌, ◌^◌, ◌≤◌, refl, subst, [], ◌∷◌, arith, ℤ, pos, neg_ℤ, ◌+ℤ◌, ◌-ℤ◌, ◌*ℤ◌, ◌≤ℤ◌, ◌<ℤ◌, unsigned_abs}
use Rattle.std.proofs.lemmas.Int.{ints}
use Rattle.crowd_data.specs.declared.limits.TheConstants.{GREATEST_SPEED}
use Rattle.exact_algebra.specs.Numbers.{floor}
use Rattle.exact_algebra.proofs.Ring.{quotes, equal, shown}
use Rattle.exact_algebra.proofs.Order.{square_nonneg, product_nonneg, sum_nonneg, gap_nonneg, cancel}
use Rattle.exact_algebra.proofs.Rounding.{floor_le, floor_gt}
use Rattle.exact_algebra.proofs.Sizes.{whole_root_le, product_positive}
use Rattle.fixed_vec.specs.Vector.{square}
use Rattle.fixed_vec.specs.Point.{IsShort, Rational, rounded_of}

-- the whole number s is at most a half from x/q
abbrev IsHalfOff : ℤ → ℤ → ℤ → Type 0
IsHalfOff s x q = ((pos 2 *ℤ (s *ℤ q -ℤ x)) ≤ℤ q) × (neg_ℤ q ≤ℤ (pos 2 *ℤ (s *ℤ q -ℤ x)))

half_off : (x q : ℤ) → pos 0 <ℤ q → IsHalfOff (floor (pos 2 *ℤ x +ℤ q) (pos 2 *ℤ q)) x q
half_off x q h =
    let p : pos 0 <ℤ (pos 2 *ℤ q) = omega (arith, ints) in
    by (floor (pos 2 *ℤ x +ℤ q) (pos 2 *ℤ q)) (floor_le (pos 2 *ℤ x +ℤ q) (pos 2 *ℤ q) p) (floor_gt (pos 2 *ℤ x +ℤ q) (pos 2 *ℤ q) p)
  where
    by : (t : ℤ) → (t *ℤ (pos 2 *ℤ q)) ≤ℤ (pos 2 *ℤ x +ℤ q) → (pos 2 *ℤ x +ℤ q) <ℤ (t *ℤ (pos 2 *ℤ q) +ℤ pos 2 *ℤ q) → IsHalfOff t x q
    by t f g =
        let e : t *ℤ (pos 2 *ℤ q) ≡ pos 2 *ℤ (t *ℤ q) = equal (t ∷ q ∷ []) (search quotes depth 30) tt in
        (omega (arith, ints), omega (arith, ints))

half_square : (s x q : ℤ) → IsHalfOff s x q → (pos 4 *ℤ ((s *ℤ q -ℤ x) *ℤ (s *ℤ q -ℤ x))) ≤ℤ (q *ℤ q)
half_square s x q h =
    let a : ℤ = s *ℤ q -ℤ x in
    let high : (pos 2 *ℤ a) ≤ℤ q = h.0 in
    let low : pos 0 ≤ℤ (q +ℤ pos 2 *ℤ a) = omega (arith, ints, h.1) in
    shown (s ∷ x ∷ q ∷ []) (product_nonneg (q -ℤ pos 2 *ℤ a) (q +ℤ pos 2 *ℤ a) (gap_nonneg _ _ high) low) (search quotes depth 30) tt

-- the origin is rounded to the origin
rounded_still : (x y q s t : ℤ) → pos 0 <ℤ q → IsHalfOff s x q → IsHalfOff t y q → (x *ℤ x +ℤ y *ℤ y) ≤ℤ pos 0 → (s *ℤ s +ℤ t *ℤ t) ≤ℤ pos 0
rounded_still x y q s t hq hs ht short =
    let a : ℤ = s *ℤ q -ℤ x in
    let b : ℤ = t *ℤ q -ℤ y in
    let twelve : pos 0 ≤ℤ (pos 3 *ℤ pos 4) = omega (arith, ints) in
    let z : ((pos 3 *ℤ (s *ℤ s +ℤ t *ℤ t)) *ℤ (q *ℤ q)) ≤ℤ (pos 2 *ℤ (q *ℤ q)) = shown (x ∷ y ∷ q ∷ s ∷ t ∷ [])
    (sum_nonneg _ _ (sum_nonneg _ _ (gap_nonneg _ _ (half_square s x q hs)) (gap_nonneg _ _ (half_square t y q ht)))
    (sum_nonneg _ _ (sum_nonneg _ _ (square_nonneg (a -ℤ pos 3 *ℤ x)) (square_nonneg (b -ℤ pos 3 *ℤ y)))
    (product_nonneg (pos 3 *ℤ pos 4) _ twelve (gap_nonneg _ _ short))))
    (search quotes depth 40 fits 20000) tt in
    let c = cancel (pos 3 *ℤ (s *ℤ s +ℤ t *ℤ t)) (pos 2) (q *ℤ q) (product_positive q q hq hq) z in
    omega (arith, ints)

-- for k above 0; the mixed products go with (k a - x)², a being how far the rounding moves x
rounded_short : (x y q s t k : ℤ) → pos 0 <ℤ q → pos 0 <ℤ k → IsHalfOff s x q → IsHalfOff t y q
    → (x *ℤ x +ℤ y *ℤ y) ≤ℤ (k *ℤ k *ℤ (q *ℤ q)) → (s *ℤ s +ℤ t *ℤ t) ≤ℤ ((k +ℤ pos 1) *ℤ (k +ℤ pos 1))
rounded_short x y q s t k hq hk hs ht short =
    let a : ℤ = s *ℤ q -ℤ x in
    let b : ℤ = t *ℤ q -ℤ y in
    let k0 : pos 0 ≤ℤ k = omega (arith, ints) in
    let k1 : pos 0 ≤ℤ (pos 4 *ℤ (k +ℤ pos 1)) = omega (arith, ints) in
    let four : pos 0 ≤ℤ pos 4 = omega (arith, ints) in
    let two : pos 0 ≤ℤ pos 2 = omega (arith, ints) in
    let factor : pos 0 <ℤ ((pos 4 *ℤ k) *ℤ (q *ℤ q)) = product_positive (pos 4 *ℤ k) (q *ℤ q) (omega (arith, ints)) (product_positive q q hq hq) in
    cancel (s *ℤ s +ℤ t *ℤ t) ((k +ℤ pos 1) *ℤ (k +ℤ pos 1)) ((pos 4 *ℤ k) *ℤ (q *ℤ q)) factor
    (shown (x ∷ y ∷ q ∷ s ∷ t ∷ k ∷ [])
    (sum_nonneg _ _ (product_nonneg (pos 4) _ four (sum_nonneg _ _ (square_nonneg (k *ℤ a -ℤ x)) (square_nonneg (k *ℤ b -ℤ y))))
    (sum_nonneg _ _ (product_nonneg (pos 4 *ℤ (k +ℤ pos 1)) _ k1 (gap_nonneg _ _ short))
    (product_nonneg (k *ℤ k +ℤ k) _ (sum_nonneg _ _ (square_nonneg k) k0)
    (sum_nonneg _ _ (sum_nonneg _ _ (gap_nonneg _ _ (half_square s x q hs)) (gap_nonneg _ _ (half_square t y q ht))) (product_nonneg (pos 2) _ two (square_nonneg q))))))
    (search quotes depth 40 fits 20000) tt)

-- a point no longer than the speed less one is rounded to one no longer than the speed
pub rounded_within : (v : Rational) (speed : ℕ) → pos 0 <ℤ v.q → IsShort (speed - 1) v → square (rounded_of v) ≤ℤ (pos speed *ℤ pos speed)
rounded_within v speed hq short = by (speed - 1) speed refl short
  where
    still : IsShort 0 v → square (rounded_of v) ≤ℤ pos 0
    still short =
        let e : pos 0 *ℤ pos 0 *ℤ (v.q *ℤ v.q) ≡ pos 0 = equal (v.q ∷ []) (search quotes depth 30) tt in
        rounded_still v.x v.y v.q (rounded_of v).x (rounded_of v).y hq (half_off v.x v.q hq) (half_off v.y v.q hq) (omega (arith, ints))

    by : (k speed : ℕ) → speed - 1 ≡ k → IsShort k v → square (rounded_of v) ≤ℤ (pos speed *ℤ pos speed)
    by zero speed e short = let s = still short in let n = square_nonneg (pos speed) in omega (arith, ints)
    by (suc k) speed e short =
        let f : pos (suc k) +ℤ pos 1 ≡ pos speed = omega (arith, ints, e) in
        subst (λ z. square (rounded_of v) ≤ℤ (z *ℤ z)) f
        (rounded_short v.x v.y v.q (rounded_of v).x (rounded_of v).y (pos (suc k)) hq (omega (arith, ints)) (half_off v.x v.q hq) (half_off v.y v.q hq) short)

-- the coordinates of a short point, near enough for rounding
pub short_coordinates : (v : Rational) (k : ℕ) → k ≤ GREATEST_SPEED → pos 0 <ℤ v.q → IsShort k v
    → (pos (unsigned_abs v.x) ≤ℤ (v.q *ℤ pos (2 ^ 32))) × (pos (unsigned_abs v.y) ≤ℤ (v.q *ℤ pos (2 ^ 32)))
short_coordinates v k hk hq short = (one v.x v.y short, one v.y v.x (omega (arith, ints)))
  where
    q0 : pos 0 ≤ℤ v.q
    q0 = omega (arith, ints)

    near : (x : ℤ) → x ≤ℤ (pos k *ℤ v.q) → neg_ℤ x ≤ℤ (pos k *ℤ v.q) → pos (unsigned_abs x) ≤ℤ (v.q *ℤ pos (2 ^ 32))
    near x h g =
        let z : pos 0 ≤ℤ ((pos (2 ^ 32) -ℤ pos k) *ℤ v.q) = product_nonneg (pos (2 ^ 32) -ℤ pos k) v.q (omega (arith, ints)) q0 in
        let e : (pos (2 ^ 32) -ℤ pos k) *ℤ v.q ≡ v.q *ℤ pos (2 ^ 32) -ℤ pos k *ℤ v.q = equal (pos (2 ^ 32) ∷ pos k ∷ v.q ∷ []) (search quotes depth 30) tt in
        omega (arith, ints)

    one : (x y : ℤ) → (x *ℤ x +ℤ y *ℤ y) ≤ℤ (pos k *ℤ pos k *ℤ (v.q *ℤ v.q)) → pos (unsigned_abs x) ≤ℤ (v.q *ℤ pos (2 ^ 32))
    one x y h =
        let b = product_nonneg (pos k) v.q (omega (arith, ints)) q0 in
        near x (whole_root_le x (pos k *ℤ v.q) b (below (pos k) h)) (whole_root_le (neg_ℤ x) (pos k *ℤ v.q) b (mirrored (pos k) h))
      where
        below : (k : ℤ) → (x *ℤ x +ℤ y *ℤ y) ≤ℤ (k *ℤ k *ℤ (v.q *ℤ v.q)) → (x *ℤ x) ≤ℤ ((k *ℤ v.q) *ℤ (k *ℤ v.q))
        below k h = shown (x ∷ y ∷ k ∷ v.q ∷ []) (sum_nonneg _ _ (gap_nonneg _ _ h) (square_nonneg y)) (search quotes depth 40 fits 20000) tt

        mirrored : (k : ℤ) → (x *ℤ x +ℤ y *ℤ y) ≤ℤ (k *ℤ k *ℤ (v.q *ℤ v.q)) → (neg_ℤ x *ℤ neg_ℤ x) ≤ℤ ((k *ℤ v.q) *ℤ (k *ℤ v.q))
        mirrored k h = shown (x ∷ y ∷ k ∷ v.q ∷ []) (sum_nonneg _ _ (gap_nonneg _ _ h) (square_nonneg y)) (search quotes depth 40 fits 20000) tt
