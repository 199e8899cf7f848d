-- When a disc is clear of a segment: the foot and the two ends decide. p is the disc's centre and d the far end, seen
-- from the segment's near end.
use Rattle.std.proofs.Common.{◌≡◌, ◌↔◌, subst, Bool, IsTrue, ℕ, ◌≤◌, [], ◌∷◌, arith, ℤ, pos, ◌+ℤ◌, ◌-ℤ◌, ◌*ℤ◌, ◌≤ℤ◌, ◌<ℤ◌}
use Rattle.std.proofs.lemmas.Int.{ints}
use Rattle.exact_algebra.proofs.Ring.{quotes, shown}
use Rattle.exact_algebra.proofs.Order.{square_nonneg, product_nonneg, sum_nonneg, gap_nonneg, cancel}
use Rattle.fixed_vec.specs.declared.vector.V2.{V2}
use Rattle.fixed_vec.specs.Vector.{cross, dot, minus, square, times}
use Rattle.crowd_data.specs.declared.segment.Segment.{Segment}
use Rattle.crowd_data.specs.Walls.{IsClear, IsClearFrom}

-- each point (k/m) (u, w) is at least r from (x, y)
abbrev pub IsOff : ℤ → ℤ → ℤ → ℤ → ℤ → Type 0
IsOff x y u w r = (k m : ℤ) → pos 0 ≤ℤ k → k ≤ℤ m → pos 0 <ℤ m
    → (m *ℤ m *ℤ (r *ℤ r)) ≤ℤ ((m *ℤ x -ℤ k *ℤ u) *ℤ (m *ℤ x -ℤ k *ℤ u) +ℤ (m *ℤ y -ℤ k *ℤ w) *ℤ (m *ℤ y -ℤ k *ℤ w))

-- the near end decides where the foot isn't beyond it
off_before : (x y u w r : ℤ) → (x *ℤ u +ℤ y *ℤ w) ≤ℤ pos 0 → (r *ℤ r) ≤ℤ (x *ℤ x +ℤ y *ℤ y) → IsOff x y u w r
off_before x y u w r behind far k m hk hm some =
    let m0 : pos 0 ≤ℤ m = omega (arith, ints) in
    let two : pos 0 ≤ℤ pos 2 = omega (arith, ints) in
    shown (x ∷ y ∷ u ∷ w ∷ r ∷ k ∷ m ∷ [])
    (sum_nonneg _ _ (product_nonneg _ (m *ℤ m) (gap_nonneg _ _ far) (square_nonneg m))
    (sum_nonneg _ _ (product_nonneg _ _ (product_nonneg _ _ (product_nonneg _ _ two m0) hk) (gap_nonneg _ _ behind))
    (product_nonneg (k *ℤ k) _ (square_nonneg k) (sum_nonneg _ _ (square_nonneg u) (square_nonneg w)))))
    (search quotes depth 40 fits 20000) tt

-- the far end decides where the foot reaches it
off_after : (x y u w r : ℤ) → (u *ℤ u +ℤ w *ℤ w) ≤ℤ (x *ℤ u +ℤ y *ℤ w) → (r *ℤ r) ≤ℤ ((x -ℤ u) *ℤ (x -ℤ u) +ℤ (y -ℤ w) *ℤ (y -ℤ w)) → IsOff x y u w r
off_after x y u w r past far k m hk hm some =
    let m0 : pos 0 ≤ℤ m = omega (arith, ints) in
    let two : pos 0 ≤ℤ pos 2 = omega (arith, ints) in
    shown (x ∷ y ∷ u ∷ w ∷ r ∷ k ∷ m ∷ [])
    (sum_nonneg _ _ (product_nonneg _ (m *ℤ m) (gap_nonneg _ _ far) (square_nonneg m))
    (sum_nonneg _ _ (product_nonneg _ _ (product_nonneg _ _ (product_nonneg _ _ two m0) (gap_nonneg _ _ hm)) (gap_nonneg _ _ past))
    (product_nonneg ((m -ℤ k) *ℤ (m -ℤ k)) _ (square_nonneg (m -ℤ k)) (sum_nonneg _ _ (square_nonneg u) (square_nonneg w)))))
    (search quotes depth 40 fits 20000) tt

-- the whole line is far enough
off_beside : (x y u w r : ℤ) → pos 0 <ℤ (u *ℤ u +ℤ w *ℤ w)
    → (r *ℤ r *ℤ (u *ℤ u +ℤ w *ℤ w)) ≤ℤ ((x *ℤ w -ℤ y *ℤ u) *ℤ (x *ℤ w -ℤ y *ℤ u)) → IsOff x y u w r
off_beside x y u w r long far k m hk hm some =
    cancel _ _ (u *ℤ u +ℤ w *ℤ w) long
    (shown (x ∷ y ∷ u ∷ w ∷ r ∷ k ∷ m ∷ [])
    (sum_nonneg _ _ (square_nonneg (m *ℤ (x *ℤ u +ℤ y *ℤ w) -ℤ k *ℤ (u *ℤ u +ℤ w *ℤ w))) (product_nonneg _ (m *ℤ m) (gap_nonneg _ _ far) (square_nonneg m)))
    (search quotes depth 40 fits 20000) tt)

-- and back, at the foot: k = p . d, m = d . d
pub foot_off : (x y u w r : ℤ) → pos 0 ≤ℤ (x *ℤ u +ℤ y *ℤ w) → (x *ℤ u +ℤ y *ℤ w) ≤ℤ (u *ℤ u +ℤ w *ℤ w) → pos 0 <ℤ (u *ℤ u +ℤ w *ℤ w)
    → IsOff x y u w r → (r *ℤ r *ℤ (u *ℤ u +ℤ w *ℤ w)) ≤ℤ ((x *ℤ w -ℤ y *ℤ u) *ℤ (x *ℤ w -ℤ y *ℤ u))
foot_off x y u w r low high long off =
    cancel _ _ (u *ℤ u +ℤ w *ℤ w) long
    (shown (x ∷ y ∷ u ∷ w ∷ r ∷ []) (gap_nonneg _ _ (off (x *ℤ u +ℤ y *ℤ w) (u *ℤ u +ℤ w *ℤ w) low high long)) (search quotes depth 40 fits 20000) tt)

-- ---- the ends of what is clear

pub clear_start : (at : V2) (radius : ℕ) (segment : Segment) → IsClear at radius segment → (pos radius *ℤ pos radius) ≤ℤ square (minus at segment.a)
clear_start at radius segment clear =
    by (pos radius) (clear (pos 0) (pos 1) (omega (arith, ints)) (omega (arith, ints)) (omega (arith, ints)))
  where
    by : (r : ℤ) → (pos 1 *ℤ pos 1 *ℤ (r *ℤ r)) ≤ℤ square (minus (times (pos 1) (minus at segment.a)) (times (pos 0) (minus segment.b segment.a))) → (r *ℤ r) ≤ℤ square (minus at segment.a)
    by r h = shown (at.x ∷ at.y ∷ segment.a.x ∷ segment.a.y ∷ segment.b.x ∷ segment.b.y ∷ r ∷ []) (gap_nonneg _ _ h) (search quotes depth 40 fits 20000) tt

pub clear_end : (at : V2) (radius : ℕ) (segment : Segment) → IsClear at radius segment → (pos radius *ℤ pos radius) ≤ℤ square (minus at segment.b)
clear_end at radius segment clear =
    by (pos radius) (clear (pos 1) (pos 1) (omega (arith, ints)) (omega (arith, ints)) (omega (arith, ints)))
  where
    by : (r : ℤ) → (pos 1 *ℤ pos 1 *ℤ (r *ℤ r)) ≤ℤ square (minus (times (pos 1) (minus at segment.a)) (times (pos 1) (minus segment.b segment.a))) → (r *ℤ r) ≤ℤ square (minus at segment.b)
    by r h = shown (at.x ∷ at.y ∷ segment.a.x ∷ segment.a.y ∷ segment.b.x ∷ segment.b.y ∷ r ∷ []) (gap_nonneg _ _ h) (search quotes depth 40 fits 20000) tt

-- a disc with some radius, clear of an end, isn't at that end
pub square_some : (r : ℕ) → 1 ≤ r → pos 1 ≤ℤ (pos r *ℤ pos r)
square_some r h =
    by (pos r) (product_nonneg (pos r -ℤ pos 1) (pos r +ℤ pos 1) (omega (arith, ints)) (omega (arith, ints)))
  where
    by : (z : ℤ) → pos 0 ≤ℤ ((z -ℤ pos 1) *ℤ (z +ℤ pos 1)) → pos 1 ≤ℤ (z *ℤ z)
    by z h = shown (z ∷ []) h (search quotes depth 30) tt

-- ---- the three tests, each exactly

module _ (p d : V2) (r : ℕ) where
  pub before_is : dot p d ≤ℤ pos 0 → ((pos r *ℤ pos r) ≤ℤ square p) ↔ IsClearFrom p d r
  before_is behind = (λ far. off_before p.x p.y d.x d.y (pos r) behind far, λ clear. at_start clear)
    where
      at_start : IsClearFrom p d r → (pos r *ℤ pos r) ≤ℤ square p
      at_start clear = by (pos r) (clear (pos 0) (pos 1) (omega (arith, ints)) (omega (arith, ints)) (omega (arith, ints)))
        where
          by : (z : ℤ) → (pos 1 *ℤ pos 1 *ℤ (z *ℤ z)) ≤ℤ square (minus (times (pos 1) p) (times (pos 0) d)) → (z *ℤ z) ≤ℤ square p
          by z h = shown (p.x ∷ p.y ∷ d.x ∷ d.y ∷ z ∷ []) (gap_nonneg _ _ h) (search quotes depth 40 fits 20000) tt

  pub after_is : square d ≤ℤ dot p d → ((pos r *ℤ pos r) ≤ℤ square (minus p d)) ↔ IsClearFrom p d r
  after_is past = (λ far. off_after p.x p.y d.x d.y (pos r) past far, λ clear. at_end clear)
    where
      at_end : IsClearFrom p d r → (pos r *ℤ pos r) ≤ℤ square (minus p d)
      at_end clear = by (pos r) (clear (pos 1) (pos 1) (omega (arith, ints)) (omega (arith, ints)) (omega (arith, ints)))
        where
          by : (z : ℤ) → (pos 1 *ℤ pos 1 *ℤ (z *ℤ z)) ≤ℤ square (minus (times (pos 1) p) (times (pos 1) d)) → (z *ℤ z) ≤ℤ square (minus p d)
          by z h = shown (p.x ∷ p.y ∷ d.x ∷ d.y ∷ z ∷ []) (gap_nonneg _ _ h) (search quotes depth 40 fits 20000) tt

  pub beside_is : pos 0 <ℤ dot p d → dot p d <ℤ square d → ((pos r *ℤ pos r *ℤ square d) ≤ℤ (cross p d *ℤ cross p d)) ↔ IsClearFrom p d r
  beside_is low high = (
    λ far. off_beside p.x p.y d.x d.y (pos r) (omega (arith, ints)) far,
    λ clear. foot_off p.x p.y d.x d.y (pos r) (omega (arith, ints)) (omega (arith, ints)) (omega (arith, ints)) clear,
  )

-- a test of the offsets p and d decides whether the disc is clear
pub decides_clear : {Far : Type 0} (test : Bool) (at : V2) (radius : ℕ) (segment : Segment) (p d : V2) → p ≡ minus at segment.a → d ≡ minus segment.b segment.a
    → (IsTrue test ↔ Far) → (Far ↔ IsClearFrom p d radius) → IsTrue test ↔ IsClear at radius segment
decides_clear test at radius segment p d e f decides far =
    subst (λ d. IsTrue test ↔ IsClearFrom (minus at segment.a) d radius) f
    (subst (λ p. IsTrue test ↔ IsClearFrom p d radius) e (λ t. far.0 (decides.0 t), λ clear. decides.1 (far.1 clear)))
