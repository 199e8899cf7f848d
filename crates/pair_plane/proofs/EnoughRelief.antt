-- The greatest relief is enough: an agent's half-plane against a neighbour, so relieved, has all points that are no
-- farther from the origin than a speed.
use Rattle.std.proofs.Common.{◌-◌, ◌+◌, ◌≤◌, ◌<◌, ◌*◌, ◌^◌, ℕ, [], ◌∷◌, arith, ℤ, pos, neg_ℤ, ◌+ℤ◌, ◌-ℤ◌, ◌*ℤ◌, ◌≤ℤ◌, ◌<ℤ◌, unsigned_abs}
use Rattle.std.proofs.lemmas.Int.{ints}
use Rattle.crowd_data.specs.declared.limits.TheConstants.{GREATEST_SPEED}
use Rattle.exact_algebra.proofs.Cauchy.{along_le}
use Rattle.exact_algebra.proofs.Order.{gap_nonneg, product_nonneg, square_nonneg, sum_nonneg}
use Rattle.exact_algebra.proofs.Ring.{quotes, shown}
use Rattle.exact_algebra.proofs.Sizes.{whole_root_le}
use Rattle.fixed_vec.specs.HalfPlane.{Plane, relieved_of, whole_length}
use Rattle.fixed_vec.specs.Point.{IsIn, IsPoint, IsShort, Rational}
use Rattle.fixed_vec.proofs.Lengths.{length_reaches}
use Rattle.pair_plane.specs.Sized.{IsShareSized}
use Rattle.pair_plane.proofs.Sized.{fits_sized, relieved_sized}

-- a share keeps the bounds of a half-plane where it is relieved
pub share_keeps : (relief : ℕ) → relief < 2 ^ 18 → (plane : Plane) → IsShareSized plane → neg_ℤ (pos (2 ^ 53)) <ℤ (relieved_of plane relief).c
share_keeps relief small plane h = let fits = fits_sized (relieved_of plane relief) (200585 + relief) (omega arith) (relieved_sized plane 200585 relief h) in omega (arith, ints, fits.offset)

-- how far a point no longer than k lies against a normal that is no longer than l
against_le : (a b x y q k l : ℤ) → pos 0 ≤ℤ k → pos 0 ≤ℤ q → pos 0 ≤ℤ l → (x *ℤ x +ℤ y *ℤ y) ≤ℤ (k *ℤ k *ℤ (q *ℤ q)) → (a *ℤ a +ℤ b *ℤ b) ≤ℤ (l *ℤ l)
    → neg_ℤ (a *ℤ x +ℤ b *ℤ y) ≤ℤ (k *ℤ (q *ℤ l))
against_le a b x y q k l hk hq hl short reaches =
    whole_root_le (neg_ℤ (a *ℤ x +ℤ b *ℤ y)) (k *ℤ (q *ℤ l)) (product_nonneg k (q *ℤ l) hk (product_nonneg q l hq hl))
    (shown (a ∷ b ∷ x ∷ y ∷ q ∷ k ∷ l ∷ [])
    (sum_nonneg _ _ (gap_nonneg _ _ (along_le a b x y))
    (sum_nonneg _ _ (product_nonneg _ (a *ℤ a +ℤ b *ℤ b) (gap_nonneg _ _ short) (sum_nonneg _ _ (square_nonneg a) (square_nonneg b)))
    (product_nonneg ((k *ℤ q) *ℤ (k *ℤ q)) _ (square_nonneg (k *ℤ q)) (gap_nonneg _ _ reaches))))
    (search quotes depth 40 fits 20000) tt)

-- 200,585 lengths and the 16,384 that a point can lie off make less than the greatest relief
far_enough : (a b x y q k l c m : ℤ) → pos 0 ≤ℤ q → pos 0 ≤ℤ l → k ≤ℤ m → c ≤ℤ neg_ℤ (m *ℤ l) → neg_ℤ (a *ℤ x +ℤ b *ℤ y) ≤ℤ (k *ℤ (q *ℤ l))
    → (c *ℤ q) ≤ℤ (a *ℤ x +ℤ b *ℤ y)
far_enough a b x y q k l c m hq hl hk off against =
    shown (a ∷ b ∷ x ∷ y ∷ q ∷ k ∷ l ∷ c ∷ m ∷ [])
    (sum_nonneg _ _ (gap_nonneg _ _ against)
    (sum_nonneg _ _ (product_nonneg _ q (gap_nonneg _ _ off) hq) (product_nonneg _ (q *ℤ l) (gap_nonneg _ _ hk) (product_nonneg q l hq hl))))
    (search quotes depth 40 fits 20000) tt

pub in_relieved : (plane : Plane) (k : ℕ) (p : Rational) → k ≤ GREATEST_SPEED → IsPoint p → IsShort k p → IsShareSized plane → IsIn (relieved_of plane 262143) p
in_relieved plane k p limit point short h =
    let l = whole_length plane.n in
    let some : pos 0 ≤ℤ p.q = omega (arith, ints) in
    far_enough plane.n.x plane.n.y p.x p.y p.q (pos k) (pos l) (relieved_of plane 262143).c (pos 61558) some (omega (arith, ints)) (omega (arith, ints)) (off l h.offset)
    (against_le plane.n.x plane.n.y p.x p.y p.q (pos k) (pos l) (omega (arith, ints)) some (omega (arith, ints)) short (omega (arith, ints, length_reaches plane.n)))
  where
    off : (l : ℕ) → unsigned_abs plane.c ≤ 200585 * l → (plane.c -ℤ pos (262143 * l)) ≤ℤ neg_ℤ (pos 61558 *ℤ pos l)
    off l h = omega (arith, ints)
