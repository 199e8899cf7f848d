use Rattle.std.proofs.Common.{suc, neg_ℤ, ◌+◌, [], ◌∷◌, arith, ℤ, pos, negsuc, ◌+ℤ◌, ◌-ℤ◌, ◌*ℤ◌, ◌≤ℤ◌, ◌<ℤ◌, unsigned_abs}
use Rattle.std.specs.Int.{div_ceil}
use Rattle.std.proofs.lemmas.Int.{ints}
use Rattle.exact_algebra.proofs.Ring.{quotes, shown}
use Rattle.exact_algebra.proofs.Order.{product_nonneg, sum_nonneg, gap_nonneg, cancel}
use Rattle.exact_algebra.proofs.Rounding.{floor_le, floor_gt}
use Rattle.fixed_vec.specs.HalfPlane.{Plane, drawn_of}
use Rattle.fixed_vec.specs.Point.{Rational, IsIn, rounded_of, whole}

up_side : (a d q : ℤ) → pos 0 ≤ℤ a → (pos 0 -ℤ q) ≤ℤ d → (pos 0 -ℤ a *ℤ q) ≤ℤ (a *ℤ d)
up_side a d q h low = shown (a ∷ d ∷ q ∷ []) (product_nonneg a (d -ℤ (pos 0 -ℤ q)) h (gap_nonneg _ _ low)) (search quotes depth 30) tt

down_side : (a d q : ℤ) → pos 0 ≤ℤ a → d ≤ℤ q → (pos 0 -ℤ a *ℤ q) ≤ℤ (neg_ℤ a *ℤ d)
down_side a d q h high = shown (a ∷ d ∷ q ∷ []) (product_nonneg a (q -ℤ d) h (gap_nonneg d q high)) (search quotes depth 30) tt

-- a factor from -q to q takes at most |n| q away
product_at_least : (n d q : ℤ) → (pos 0 -ℤ q) ≤ℤ d → d ≤ℤ q → (pos 0 -ℤ pos (unsigned_abs n) *ℤ q) ≤ℤ (n *ℤ d)
product_at_least (pos n) d q low high = up_side (pos n) d q (omega (arith, ints)) low
product_at_least (negsuc n) d q low high = down_side (pos (suc n)) d q (omega (arith, ints)) high

-- the rounding of a point of the drawn plane is in the plane
pub rounded_in_plane : (plane : Plane) (p : Rational) → pos 0 <ℤ p.q → IsIn (drawn_of plane) p → IsIn plane (whole (rounded_of p))
rounded_in_plane plane p hq h =
    let a = plane.n.x in let b = plane.n.y in let c = plane.c in let x = p.x in let y = p.y in let q = p.q in
    let r = (rounded_of p).x in let s = (rounded_of p).y in
    let t : ℤ = pos (div_ceil (unsigned_abs a + unsigned_abs b) 2) in
    let double : pos 0 <ℤ (pos 2 *ℤ q) = omega (arith, ints) in
    let rl = floor_le (pos 2 *ℤ x +ℤ q) (pos 2 *ℤ q) double in
    let rh = floor_gt (pos 2 *ℤ x +ℤ q) (pos 2 *ℤ q) double in
    let sl = floor_le (pos 2 *ℤ y +ℤ q) (pos 2 *ℤ q) double in
    let sh = floor_gt (pos 2 *ℤ y +ℤ q) (pos 2 *ℤ q) double in
    let f = product_at_least a (r *ℤ (pos 2 *ℤ q) -ℤ pos 2 *ℤ x) q (omega (arith, ints)) (omega (arith, ints)) in
    let g = product_at_least b (s *ℤ (pos 2 *ℤ q) -ℤ pos 2 *ℤ y) q (omega (arith, ints)) (omega (arith, ints)) in
    let half : (pos (unsigned_abs a) +ℤ pos (unsigned_abs b)) ≤ℤ (pos 2 *ℤ t) = omega (arith, ints) in
    let k : pos 0 ≤ℤ ((pos 2 *ℤ t -ℤ (pos (unsigned_abs a) +ℤ pos (unsigned_abs b))) *ℤ q) = product_nonneg _ q (gap_nonneg _ _ half) (omega (arith, ints)) in
    cancel (c *ℤ pos 1) (a *ℤ r +ℤ b *ℤ s) (pos 2 *ℤ q) double
    (shown (a ∷ b ∷ c ∷ x ∷ y ∷ q ∷ r ∷ s ∷ t ∷ pos (unsigned_abs a) ∷ pos (unsigned_abs b) ∷ [])
    (sum_nonneg _ _ (sum_nonneg _ _ (gap_nonneg _ _ f) (gap_nonneg _ _ g)) (sum_nonneg _ _ k (sum_nonneg _ _ (gap_nonneg _ _ h) (gap_nonneg _ _ h))))
    (search quotes depth 40 fits 20000) tt)
