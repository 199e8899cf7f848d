-- What is well within a speed is in all half-planes of its polygon, where the edges of the ring are near the circle.
use Rattle.std.proofs.Common.{◌≡◌, ℕ, zero, suc, ◌-◌, ◌<◌, ◌≤◌, Bool, true, ◌&&◌, List, [], ◌∷◌, length, All, slice_index_or, subst, refl, arith, ℤ, pos, ◌+ℤ◌, ◌-ℤ◌, ◌*ℤ◌, ◌<ℤ◌, ◌≤ℤ◌, int_lt, int_le}
use Rattle.std.proofs.lemmas.Int.{ints}
use Rattle.exact_algebra.specs.Numbers.{ceil}
use Rattle.exact_algebra.proofs.Ring.{quotes, equal, shown}
use Rattle.exact_algebra.proofs.Order.{square_nonneg, product_nonneg, sum_nonneg, gap_nonneg, cancel}
use Rattle.exact_algebra.proofs.Rounding.{ceil_lt}
use Rattle.exact_algebra.proofs.Tests.{le_true, lt_true, both_of}
use Rattle.exact_algebra.proofs.Sizes.{whole_root_le}
use Rattle.fixed_vec.specs.declared.vector.V2.{V2}
use Rattle.fixed_vec.specs.Vector.{cross, dot, minus, perp, square}
use Rattle.fixed_vec.specs.HalfPlane.{Plane}
use Rattle.fixed_vec.specs.Point.{Rational, IsIn}
use Rattle.crowd_data.specs.RingPlanes.{edge_plane, edge_planes, ring_planes, ring_planes_of, ring_points, ring_radius}
use Rattle.crowd_data.specs.declared.limits.TheConstants.{GREATEST_SPEED}
use Rattle.hard_plane.specs.Ring.{turns_left, all_at, is_round, inner_reach, IsInner}
use Rattle.hard_plane.proofs.RingPoints.{ring_planes_of-ring}
use Rattle.hard_plane.proofs.ScenarioRings.{by_ring, round, some_radius}

-- ---- the algebra: (g, h) is the edge's normal, d = cross of its points, r the radius, v = (x, y)/q the point

-- a point no longer than (s k - i)/w reaches the border moved by what rounding up can take,
-- where r |(g, h)| s is at most w d, and r s at most i d
reaches : (g h x y q r k s i w d : ℤ) → pos 0 <ℤ r → pos 0 <ℤ s → pos 0 <ℤ w → pos 0 <ℤ d → pos 0 <ℤ q
    → (s *ℤ s *ℤ (r *ℤ r *ℤ (g *ℤ g +ℤ h *ℤ h))) ≤ℤ (w *ℤ w *ℤ (d *ℤ d)) → (s *ℤ r) ≤ℤ (i *ℤ d)
    → pos 0 ≤ℤ (s *ℤ k -ℤ i) → (w *ℤ w *ℤ (x *ℤ x +ℤ y *ℤ y)) ≤ℤ ((s *ℤ k -ℤ i) *ℤ (s *ℤ k -ℤ i) *ℤ (q *ℤ q))
    → ((r -ℤ k *ℤ d) *ℤ q) ≤ℤ (r *ℤ (g *ℤ x +ℤ h *ℤ y))
reaches g h x y q r k s i w d hr hs hw hd hq slope start hn inside =
    let n : ℤ = s *ℤ k -ℤ i in
    let r0 : pos 0 ≤ℤ r = omega (arith, ints) in
    let s0 : pos 0 ≤ℤ s = omega (arith, ints) in
    let w0 : pos 0 ≤ℤ w = omega (arith, ints) in
    let d0 : pos 0 ≤ℤ d = omega (arith, ints) in
    let q0 : pos 0 ≤ℤ q = omega (arith, ints) in
    let t : ℤ = pos 0 -ℤ (g *ℤ x +ℤ h *ℤ y) in
    let squares : ((w *ℤ (r *ℤ (s *ℤ t))) *ℤ (w *ℤ (r *ℤ (s *ℤ t)))) ≤ℤ ((w *ℤ (d *ℤ (n *ℤ q))) *ℤ (w *ℤ (d *ℤ (n *ℤ q)))) =
    shown (g ∷ h ∷ x ∷ y ∷ q ∷ r ∷ k ∷ s ∷ i ∷ w ∷ d ∷ [])
    (sum_nonneg _ _ (square_nonneg (w *ℤ (r *ℤ (s *ℤ (g *ℤ y -ℤ h *ℤ x)))))
    (sum_nonneg _ _ (product_nonneg _ _ (product_nonneg _ _ (square_nonneg w) (sum_nonneg _ _ (square_nonneg x) (square_nonneg y))) (gap_nonneg _ _ slope))
    (product_nonneg _ _ (product_nonneg _ _ (square_nonneg w) (square_nonneg d)) (gap_nonneg _ _ inside))))
    (search quotes depth 40 fits 40000) tt in
    let roots = whole_root_le (w *ℤ (r *ℤ (s *ℤ t))) (w *ℤ (d *ℤ (n *ℤ q))) (product_nonneg _ _ w0 (product_nonneg _ _ d0 (product_nonneg _ _ hn q0))) squares in
    let most : (r *ℤ (s *ℤ t)) ≤ℤ (d *ℤ (n *ℤ q)) = cancel (r *ℤ (s *ℤ t)) (d *ℤ (n *ℤ q)) w hw (shown (g ∷ h ∷ x ∷ y ∷ q ∷ r ∷ k ∷ s ∷ i ∷ w ∷ d ∷ []) (gap_nonneg _ _ roots) (search quotes depth 40 fits 20000) tt) in
    cancel ((r -ℤ k *ℤ d) *ℤ q) (r *ℤ (g *ℤ x +ℤ h *ℤ y)) s hs
    (shown (g ∷ h ∷ x ∷ y ∷ q ∷ r ∷ k ∷ s ∷ i ∷ w ∷ d ∷ []) (sum_nonneg _ _ (gap_nonneg _ _ most) (product_nonneg _ q (gap_nonneg _ _ start) q0)) (search quotes depth 40 fits 20000) tt)

-- and is then within the border rounded up
within_border : (g h x y q r k d c : ℤ) → pos 0 <ℤ r → pos 0 <ℤ q → (c *ℤ r) <ℤ ((pos 0 -ℤ k *ℤ d) +ℤ r)
    → ((r -ℤ k *ℤ d) *ℤ q) ≤ℤ (r *ℤ (g *ℤ x +ℤ h *ℤ y)) → (c *ℤ q) ≤ℤ (g *ℤ x +ℤ h *ℤ y)
within_border g h x y q r k d c hr hq low reach =
    let q0 : pos 0 ≤ℤ q = omega (arith, ints) in
    let l : (c *ℤ r) ≤ℤ ((pos 0 -ℤ k *ℤ d) +ℤ r) = omega (arith, ints) in
    cancel (c *ℤ q) (g *ℤ x +ℤ h *ℤ y) r hr
    (shown (g ∷ h ∷ x ∷ y ∷ q ∷ r ∷ k ∷ d ∷ c ∷ []) (sum_nonneg _ _ (gap_nonneg _ _ reach) (product_nonneg _ q (gap_nonneg _ _ l) q0)) (search quotes depth 40 fits 20000) tt)

-- (t u) (x, y) in place of t (x, y), and b in place of u a
scaled : (x y q a b t u : ℤ) → pos 0 ≤ℤ (u *ℤ a) → (u *ℤ a) ≤ℤ b → (t *ℤ t *ℤ (x *ℤ x +ℤ y *ℤ y)) ≤ℤ (a *ℤ a *ℤ (q *ℤ q))
    → ((t *ℤ u) *ℤ (t *ℤ u) *ℤ (x *ℤ x +ℤ y *ℤ y)) ≤ℤ (b *ℤ b *ℤ (q *ℤ q))
scaled x y q a b t u ha hb h =
    let b0 : pos 0 ≤ℤ b = omega (arith, ints) in
    shown (x ∷ y ∷ q ∷ a ∷ b ∷ t ∷ u ∷ [])
    (sum_nonneg _ _ (product_nonneg (u *ℤ u) _ (square_nonneg u) (gap_nonneg _ _ h))
    (product_nonneg (q *ℤ q) _ (square_nonneg q) (product_nonneg (b -ℤ u *ℤ a) (b +ℤ u *ℤ a) (gap_nonneg _ _ hb) (sum_nonneg _ _ b0 ha))))
    (search quotes depth 40 fits 20000) tt

-- ---- the test of the edges

-- an edge is at least so many millionths of the radius from the origin
abbrev slope : ℤ
slope = pos 989949

-- and rounding its offset up takes at most so many millionths of a unit of speed
abbrev loss : ℤ
loss = pos 164000

abbrev million : ℤ
million = pos 1000000

abbrev is_edge_near : ℤ → V2 → V2 → Bool
is_edge_near r p q = int_le (slope *ℤ slope *ℤ (r *ℤ r *ℤ square (perp (minus q p)))) (million *ℤ million *ℤ (cross p q *ℤ cross p q)) && int_le (slope *ℤ r) (loss *ℤ cross p q)

abbrev are_edges_near : ℤ → V2 → List V2 → Bool
are_edges_near r first [] = true
are_edges_near r first (p ∷ []) = is_edge_near r p first
are_edges_near r first (p ∷ q ∷ rest) = is_edge_near r p q && are_edges_near r first (q ∷ rest)

abbrev is_near_round : ℤ → List V2 → Bool
is_near_round r [] = true
is_near_round r (first ∷ rest) = are_edges_near r first (first ∷ rest)

-- the millionths of a unit that a point may be long
abbrev most : ℕ → ℤ
most k = slope *ℤ pos k -ℤ loss

module _ (r : ℤ) (k : ℕ) (v : Rational) (hr : pos 0 <ℤ r) (hq : pos 0 <ℤ v.q) (hk : pos 0 ≤ℤ most k)
    (hv : (million *ℤ million *ℤ (v.x *ℤ v.x +ℤ v.y *ℤ v.y)) ≤ℤ (most k *ℤ most k *ℤ (v.q *ℤ v.q))) where
  in_edge_plane : (p q : V2) → int_lt (pos 0) (cross p q) ≡ true → is_edge_near r p q ≡ true → IsIn (edge_plane r k p q) v
  in_edge_plane p q left near =
      let n : V2 = perp (minus q p) in
      let d = lt_true (pos 0) (cross p q) left in
      let t = both_of (int_le (slope *ℤ slope *ℤ (r *ℤ r *ℤ square n)) (million *ℤ million *ℤ (cross p q *ℤ cross p q))) (int_le (slope *ℤ r) (loss *ℤ cross p q)) near in
      let f = reaches n.x n.y v.x v.y v.q r (pos k) slope loss million (cross p q) hr (omega (arith, ints)) (omega (arith, ints)) d hq (le_true _ _ t.0) (le_true _ _ t.1) hk hv in
      let e : pos k *ℤ dot n p ≡ pos 0 -ℤ pos k *ℤ cross p q = equal (pos k ∷ p.x ∷ p.y ∷ q.x ∷ q.y ∷ []) (search quotes depth 40 fits 20000) tt in
      let low = subst (λ z. (ceil (pos k *ℤ dot n p) r *ℤ r) <ℤ (z +ℤ r)) e (ceil_lt (pos k *ℤ dot n p) r hr) in
      within_border n.x n.y v.x v.y v.q r (pos k) (cross p q) (ceil (pos k *ℤ dot n p) r) hr hq low f

  in_edge_planes : (first : V2) (ps : List V2) → turns_left first ps ≡ true → are_edges_near r first ps ≡ true
      → (j : ℕ) (d : Plane) → j < length (edge_planes r k first ps) → IsIn (slice_index_or (edge_planes r k first ps) j d) v
  in_edge_planes first [] t u j d h = absurd (omega arith)
  in_edge_planes first (p ∷ []) t u zero d h = in_edge_plane p first t u
  in_edge_planes first (p ∷ []) t u (suc j) d h = absurd (omega arith)
  in_edge_planes first (p ∷ q ∷ ps) t u zero d h =
      in_edge_plane p q (both_of (int_lt (pos 0) (cross p q)) (turns_left first (q ∷ ps)) t).0 (both_of (is_edge_near r p q) (are_edges_near r first (q ∷ ps)) u).0
  in_edge_planes first (p ∷ q ∷ ps) t u (suc j) d h =
      in_edge_planes first (q ∷ ps) (both_of (int_lt (pos 0) (cross p q)) (turns_left first (q ∷ ps)) t).1 (both_of (is_edge_near r p q) (are_edges_near r first (q ∷ ps)) u).1 j d (omega arith)

-- in each half-plane of a ring that is near the circle
inner_in_ring : (r : ℤ) (ps : List V2) (v : Rational) (speed : ℕ) → pos 0 <ℤ r → pos 0 <ℤ v.q → speed ≤ GREATEST_SPEED
    → is_round r ps ≡ true → is_near_round r ps ≡ true → IsInner speed v → All (λ plane. IsIn plane v) (ring_planes_of r ps speed)
inner_in_ring r [] v speed hr hq hs t u inner = absurd (cc t)
inner_in_ring r (p ∷ ps) v speed hr hq hs t u inner =
    let a0 : pos 0 ≤ℤ (pos 10000 *ℤ inner_reach speed) = omega (arith, ints, inner.some) in
    let ab : (pos 10000 *ℤ inner_reach speed) ≤ℤ most (speed - 1) = omega (arith, ints, inner.some) in
    let k0 : pos 0 ≤ℤ most (speed - 1) = omega (arith, ints) in
    in_edge_planes r (speed - 1) v hr hq k0 (scaled v.x v.y v.q (inner_reach speed) (most (speed - 1)) (pos 100) (pos 10000) a0 ab inner.near)
    p (p ∷ ps) (both_of (all_at r (p ∷ ps)) (turns_left p (p ∷ ps)) t).1 u

-- and in each half-plane of a speed polygon, whichever the ring
pub inner_in_polygon : (v : Rational) (speed : ℕ) → pos 0 <ℤ v.q → speed ≤ GREATEST_SPEED → IsInner speed v → (ring : ℕ) → All (λ plane. IsIn plane v) (ring_planes ring speed)
inner_in_polygon v speed hq hs inner ring =
    subst (λ planes. All (λ plane. IsIn plane v) planes) (ring_planes_of-ring ring (ring_radius ring) (ring_points ring) speed refl refl)
    (inner_in_ring (ring_radius ring) (ring_points ring) v speed (some_radius ring) hq hs (round ring) (by_ring (λ r ps. is_near_round r ps ≡ true) refl refl ring) inner)
