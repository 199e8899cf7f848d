-- The algebra of one sector: m = (a, b) and m' = (c, d) are neighbours of a ring, v = (x, y)/q is a point.
use Rattle.std.proofs.Common.{◌≡◌, [], ◌∷◌, arith, ℤ, pos, neg_ℤ, ◌+ℤ◌, ◌-ℤ◌, ◌*ℤ◌, ◌≤ℤ◌, ◌<ℤ◌}
use Rattle.std.proofs.lemmas.Int.{ints}
use Rattle.exact_algebra.specs.Numbers.{ceil}
use Rattle.exact_algebra.proofs.Ring.{quotes, equal, shown}
use Rattle.exact_algebra.proofs.Order.{square_nonneg, product_nonneg, sum_nonneg, gap_nonneg, cancel}
use Rattle.exact_algebra.proofs.Rounding.{ceil_ge}
use Rattle.exact_algebra.proofs.Sizes.{product_positive}

-- what an edge's half-plane says: r (cross(m, v) - cross(m', v)) is at most k q cross(m, m')
pub edge_holds : (a b c d x y q r k : ℤ) → pos 0 <ℤ r → pos 0 <ℤ q
    → (ceil (k *ℤ (neg_ℤ (d -ℤ b) *ℤ a +ℤ (c -ℤ a) *ℤ b)) r *ℤ q) ≤ℤ (neg_ℤ (d -ℤ b) *ℤ x +ℤ (c -ℤ a) *ℤ y)
    → (r *ℤ ((a *ℤ y -ℤ b *ℤ x) -ℤ (c *ℤ y -ℤ d *ℤ x))) ≤ℤ (k *ℤ q *ℤ (a *ℤ d -ℤ b *ℤ c))
edge_holds a b c d x y q r k hr hq inside =
    let o : ℤ = k *ℤ (neg_ℤ (d -ℤ b) *ℤ a +ℤ (c -ℤ a) *ℤ b) in
    by (ceil o r) (ceil_ge o r hr) inside (omega (arith, ints)) (omega (arith, ints))
  where
    by : (t : ℤ) → (k *ℤ (neg_ℤ (d -ℤ b) *ℤ a +ℤ (c -ℤ a) *ℤ b)) ≤ℤ (t *ℤ r) → (t *ℤ q) ≤ℤ (neg_ℤ (d -ℤ b) *ℤ x +ℤ (c -ℤ a) *ℤ y) → pos 0 ≤ℤ r → pos 0 ≤ℤ q
        → (r *ℤ ((a *ℤ y -ℤ b *ℤ x) -ℤ (c *ℤ y -ℤ d *ℤ x))) ≤ℤ (k *ℤ q *ℤ (a *ℤ d -ℤ b *ℤ c))
    by t up in_plane r0 q0 = shown (a ∷ b ∷ c ∷ d ∷ x ∷ y ∷ q ∷ r ∷ k ∷ t ∷ [])
        (sum_nonneg _ _ (product_nonneg _ r (gap_nonneg _ _ in_plane) r0) (product_nonneg _ q (gap_nonneg _ _ up) q0)) (search quotes depth 40 fits 20000) tt

-- a point of the sector that is in the edge's half-plane is no longer than k: with D = cross(m, m'), D v = u m + w m',
-- where u and w aren't negative and r (u + w) is at most k q D
pub sector_short : (a b c d x y q r k : ℤ) → pos 0 <ℤ r → pos 0 ≤ℤ k → pos 0 <ℤ q
    → (a *ℤ a +ℤ b *ℤ b) ≤ℤ (r *ℤ r) → (c *ℤ c +ℤ d *ℤ d) ≤ℤ (r *ℤ r) → pos 0 <ℤ (a *ℤ d -ℤ b *ℤ c)
    → (r *ℤ ((a *ℤ y -ℤ b *ℤ x) -ℤ (c *ℤ y -ℤ d *ℤ x))) ≤ℤ (k *ℤ q *ℤ (a *ℤ d -ℤ b *ℤ c))
    → pos 0 ≤ℤ (a *ℤ y -ℤ b *ℤ x) → (c *ℤ y -ℤ d *ℤ x) ≤ℤ pos 0
    → (x *ℤ x +ℤ y *ℤ y) ≤ℤ (k *ℤ k *ℤ (q *ℤ q))
sector_short a b c d x y q r k hr hk hq atm atn left plane hw hu =
    let e : ℤ = a *ℤ d -ℤ b *ℤ c in
    let u : ℤ = pos 0 -ℤ (c *ℤ y -ℤ d *ℤ x) in
    let w : ℤ = a *ℤ y -ℤ b *ℤ x in
    let e0 : pos 0 ≤ℤ e = omega (arith, ints) in
    let r0 : pos 0 ≤ℤ r = omega (arith, ints) in
    let q0 : pos 0 ≤ℤ q = omega (arith, ints) in
    let u0 : pos 0 ≤ℤ u = gap_nonneg _ _ hu in
    let f : ((e *ℤ e) *ℤ (x *ℤ x +ℤ y *ℤ y)) ≤ℤ (r *ℤ r *ℤ ((u +ℤ w) *ℤ (u +ℤ w))) = shown (a ∷ b ∷ c ∷ d ∷ x ∷ y ∷ r ∷ [])
    (sum_nonneg _ _ (sum_nonneg _ _ (product_nonneg _ (u *ℤ u) (gap_nonneg _ _ atm) (square_nonneg u)) (product_nonneg _ (w *ℤ w) (gap_nonneg _ _ atn) (square_nonneg w)))
    (product_nonneg (u *ℤ w) _ (product_nonneg u w u0 hw) (sum_nonneg _ _ (sum_nonneg _ _ (gap_nonneg _ _ atm) (gap_nonneg _ _ atn)) (sum_nonneg _ _ (square_nonneg (a -ℤ c)) (square_nonneg (b -ℤ d))))))
    (search quotes depth 40 fits 20000) tt in
    let bound : (r *ℤ (w -ℤ (c *ℤ y -ℤ d *ℤ x))) ≤ℤ (k *ℤ q *ℤ e) = plane in
    let g0 : pos 0 ≤ℤ (r *ℤ (u +ℤ w)) = product_nonneg r (u +ℤ w) r0 (sum_nonneg u w u0 hw) in
    let k0 : pos 0 ≤ℤ (k *ℤ q *ℤ e) = product_nonneg (k *ℤ q) e (product_nonneg k q hk q0) e0 in
    let g : (r *ℤ r *ℤ ((u +ℤ w) *ℤ (u +ℤ w))) ≤ℤ ((k *ℤ k *ℤ (q *ℤ q)) *ℤ (e *ℤ e)) = shown (a ∷ b ∷ c ∷ d ∷ x ∷ y ∷ q ∷ r ∷ k ∷ [])
    (product_nonneg (k *ℤ q *ℤ e -ℤ r *ℤ (w -ℤ (c *ℤ y -ℤ d *ℤ x))) (k *ℤ q *ℤ e +ℤ r *ℤ (u +ℤ w)) (gap_nonneg _ _ bound) (sum_nonneg _ _ k0 g0))
    (search quotes depth 40 fits 20000) tt in
    let s : (x *ℤ x +ℤ y *ℤ y) *ℤ (e *ℤ e) ≡ (e *ℤ e) *ℤ (x *ℤ x +ℤ y *ℤ y) = equal ((x *ℤ x +ℤ y *ℤ y) ∷ (e *ℤ e) ∷ []) (search quotes depth 30) tt in
    cancel (x *ℤ x +ℤ y *ℤ y) (k *ℤ k *ℤ (q *ℤ q)) (e *ℤ e) (product_positive e e left left) (omega (arith, ints))

-- a product that isn't negative, with a positive factor
other_factor : (a b : ℤ) → pos 0 <ℤ b → pos 0 ≤ℤ (a *ℤ b) → pos 0 ≤ℤ a
other_factor a b h k = cancel (pos 0) a b h (let e : pos 0 *ℤ b ≡ pos 0 = equal (b ∷ []) (search quotes depth 30) tt in omega (arith, ints))

-- three points, f = (a, b), p = (c, d) and q = (s, t), on one side of the line through the origin and v: "to the left
-- of" is transitive, by cross(f, q) cross(p, v) = cross(f, p) cross(q, v) + cross(p, q) cross(f, v)
pub left_above : (a b c d s t x y : ℤ) → pos 0 ≤ℤ (a *ℤ d -ℤ b *ℤ c) → pos 0 <ℤ (c *ℤ t -ℤ d *ℤ s)
    → pos 0 <ℤ (a *ℤ y -ℤ b *ℤ x) → pos 0 <ℤ (c *ℤ y -ℤ d *ℤ x) → pos 0 <ℤ (s *ℤ y -ℤ t *ℤ x) → pos 0 ≤ℤ (a *ℤ t -ℤ b *ℤ s)
left_above a b c d s t x y fp pq f p q =
    let e : (a *ℤ t -ℤ b *ℤ s) *ℤ (c *ℤ y -ℤ d *ℤ x) ≡ (a *ℤ d -ℤ b *ℤ c) *ℤ (s *ℤ y -ℤ t *ℤ x) +ℤ (c *ℤ t -ℤ d *ℤ s) *ℤ (a *ℤ y -ℤ b *ℤ x) =
    equal (a ∷ b ∷ c ∷ d ∷ s ∷ t ∷ x ∷ y ∷ []) (search quotes depth 40 fits 20000) tt in
    let g : pos 0 ≤ℤ ((a *ℤ d -ℤ b *ℤ c) *ℤ (s *ℤ y -ℤ t *ℤ x)) = product_nonneg (a *ℤ d -ℤ b *ℤ c) (s *ℤ y -ℤ t *ℤ x) fp (omega (arith, ints)) in
    let h : pos 0 ≤ℤ ((c *ℤ t -ℤ d *ℤ s) *ℤ (a *ℤ y -ℤ b *ℤ x)) = product_nonneg (c *ℤ t -ℤ d *ℤ s) (a *ℤ y -ℤ b *ℤ x) (omega (arith, ints)) (omega (arith, ints)) in
    other_factor (a *ℤ t -ℤ b *ℤ s) (c *ℤ y -ℤ d *ℤ x) p (omega (arith, ints))

-- the same on the other side
pub left_below : (a b c d s t x y : ℤ) → pos 0 ≤ℤ (a *ℤ d -ℤ b *ℤ c) → pos 0 <ℤ (c *ℤ t -ℤ d *ℤ s)
    → (a *ℤ y -ℤ b *ℤ x) <ℤ pos 0 → (c *ℤ y -ℤ d *ℤ x) <ℤ pos 0 → (s *ℤ y -ℤ t *ℤ x) <ℤ pos 0 → pos 0 ≤ℤ (a *ℤ t -ℤ b *ℤ s)
left_below a b c d s t x y fp pq f p q =
    left_above a b c d s t (neg_ℤ x) (neg_ℤ y) fp pq (turned a b f) (turned c d p) (turned s t q)
  where
    turned : (a b : ℤ) → (a *ℤ y -ℤ b *ℤ x) <ℤ pos 0 → pos 0 <ℤ (a *ℤ neg_ℤ y -ℤ b *ℤ neg_ℤ x)
    turned a b h = let e : a *ℤ neg_ℤ y -ℤ b *ℤ neg_ℤ x ≡ neg_ℤ (a *ℤ y -ℤ b *ℤ x) = equal (a ∷ b ∷ x ∷ y ∷ []) (search quotes depth 30) tt in omega (arith, ints)
