-- What a ring says of each of its points and edges.
use Rattle.std.proofs.Common.{◌≡◌, ℕ, zero, suc, ◌+◌, ◌-◌, ◌<◌, refl, true, ◌&&◌, List, [], ◌∷◌, Some, length, take, ◌++◌, ap, ◌∙◌, arith, ℤ, pos, ◌+ℤ◌, ◌-ℤ◌, ◌*ℤ◌, ◌≤ℤ◌, ◌<ℤ◌, unsigned_abs, int_lt}
use Rattle.std.specs.List.{slice_get, slice_index_or}
use Rattle.std.proofs.lemmas.Int.{ints}
use Rattle.std.proofs.lemmas.List.{take_more}
use Rattle.std.proofs.lemmas.Option.{get_or_from_slice_get, slice_get_within}
use Rattle.exact_algebra.proofs.Ring.{quotes, equal}
use Rattle.exact_algebra.proofs.Order.{product_nonneg}
use Rattle.exact_algebra.proofs.Tests.{lt_true, eq_true, both_of}
use Rattle.exact_algebra.proofs.Sizes.{square_abs, root_lt}
use Rattle.fixed_vec.specs.declared.vector.V2.{V2}
use Rattle.fixed_vec.specs.Vector.{cross, square, IsBelow}
use Rattle.fixed_vec.specs.HalfPlane.{Plane}
use Rattle.crowd_data.specs.RingPlanes.{edge_plane, edge_planes, ring_planes, ring_planes_of, ring_points, ring_radius}
use Rattle.hard_plane.specs.Ring.{is_at, all_at, turns_left, is_round, is_ring, IsNeighbour}

pub ring_bounds : (r : ℤ) (ps : List V2) → is_ring r ps ≡ true → (pos 0 <ℤ r) × (r <ℤ pos 1024) × (is_round r ps ≡ true)
ring_bounds r ps t =
    let h = both_of (int_lt (pos 0) r) (int_lt r (pos 1024) && is_round r ps) t in
    let k = both_of (int_lt r (pos 1024)) (is_round r ps) h.1 in
    (lt_true (pos 0) r h.0, lt_true r (pos 1024) k.0, k.1)

-- the coordinates of what is shorter than 1024
coordinates_small : (p : V2) (r : ℤ) → square p ≡ r *ℤ r → pos 0 <ℤ r → r <ℤ pos 1024 → IsBelow p 1024
coordinates_small p r e h k =
    let g : pos 0 ≤ℤ ((pos 1023 -ℤ r) *ℤ (pos 1023 +ℤ r)) = product_nonneg (pos 1023 -ℤ r) (pos 1023 +ℤ r) (omega (arith, ints)) (omega (arith, ints)) in
    let q : (pos 1023 -ℤ r) *ℤ (pos 1023 +ℤ r) ≡ pos 1023 *ℤ pos 1023 -ℤ r *ℤ r = equal (r ∷ pos 1023 ∷ []) (search quotes depth 30) tt in
    let x = square_abs p.x in
    let y = square_abs p.y in
    (root_lt (unsigned_abs p.x) 1024 (omega (arith, ints)), root_lt (unsigned_abs p.y) 1024 (omega (arith, ints)))

point_at : (r : ℤ) (ps : List V2) (k : ℕ) (d : V2) → all_at r ps ≡ true → k < length ps → square (slice_index_or ps k d) ≡ r *ℤ r
point_at r [] k d t h = absurd (omega arith)
point_at r (p ∷ ps) zero d t h = eq_true (square p) (r *ℤ r) (both_of (is_at r p) (all_at r ps) t).0
point_at r (p ∷ ps) (suc k) d t h = point_at r ps k d (both_of (is_at r p) (all_at r ps) t).1 (omega arith)

pub ring_point : (r : ℤ) (ps : List V2) (k : ℕ) (d : V2) → is_ring r ps ≡ true → k < length ps → IsBelow (slice_index_or ps k d) 1024
ring_point r [] k d t h = absurd (omega arith)
ring_point r (p ∷ ps) k d t h =
    let b = ring_bounds r (p ∷ ps) t in
    let at = point_at r (p ∷ ps) k d (both_of (all_at r (p ∷ ps)) (turns_left p (p ∷ ps)) b.2).0 h in
    coordinates_small (slice_index_or (p ∷ ps) k d) r at b.0 b.1

-- ---- the edge from a point to its neighbour

-- it turns left, and its plane is the list's
record IsEdge (r : ℤ) (first : V2) (ps : List V2) (k : ℕ) (p q : V2) : Type 0 where
  pub left : pos 0 <ℤ cross p q
  pub plane : (s : ℕ) → slice_get (edge_planes r s first ps) k ≡ Some (edge_plane r s p q)

next_edge : (r : ℤ) (first : V2) (ps : List V2) (k : ℕ) (c d : V2) → turns_left first ps ≡ true → k + 1 < length ps → IsEdge r first ps k (slice_index_or ps k c) (slice_index_or ps (k + 1) d)
next_edge r first [] k c d t h = absurd (omega arith)
next_edge r first (p ∷ []) k c d t h = absurd (omega arith)
next_edge r first (p ∷ q ∷ ps) zero c d t h = record { left = lt_true _ _ (both_of (int_lt (pos 0) (cross p q)) (turns_left first (q ∷ ps)) t).0; plane = λ s. refl }
next_edge r first (p ∷ q ∷ ps) (suc k) c d t h =
    let e : suc k + 1 ≡ suc (k + 1) = omega arith in
    let more = next_edge r first (q ∷ ps) k c d (both_of (int_lt (pos 0) (cross p q)) (turns_left first (q ∷ ps)) t).1 (omega arith) in
    rw e (record { left = more.left; plane = more.plane })

last_edge : (r : ℤ) (first : V2) (ps : List V2) (k : ℕ) (c : V2) → turns_left first ps ≡ true → k + 1 ≡ length ps → IsEdge r first ps k (slice_index_or ps k c) first
last_edge r first [] k c t e = absurd (omega arith)
last_edge r first (p ∷ []) zero c t e = record { left = lt_true _ _ t; plane = λ s. refl }
last_edge r first (p ∷ []) (suc k) c t e = absurd (omega arith)
last_edge r first (p ∷ q ∷ ps) zero c t e = absurd (omega arith)
last_edge r first (p ∷ q ∷ ps) (suc k) c t e =
    let more = last_edge r first (q ∷ ps) k c (both_of (int_lt (pos 0) (cross p q)) (turns_left first (q ∷ ps)) t).1 (omega arith) in
    record { left = more.left; plane = more.plane }

pub ring_next : (r : ℤ) (ps : List V2) (k : ℕ) (m d : V2) → is_ring r ps ≡ true → slice_get ps k ≡ Some m → k + 1 < length ps → IsNeighbour r ps k m (slice_index_or ps (k + 1) d)
ring_next r [] k m d t i h = absurd (omega arith)
ring_next r (p ∷ ps) k m d t i h =
    let e = next_edge r p (p ∷ ps) k m d (both_of (all_at r (p ∷ ps)) (turns_left p (p ∷ ps)) (ring_bounds r (p ∷ ps) t).2).1 h in
    rw (← get_or_from_slice_get (p ∷ ps) k m m i) (record { left = e.left; plane = λ s. e.plane (s - 1) })

pub ring_last : (r : ℤ) (ps : List V2) (k : ℕ) (m d : V2) → is_ring r ps ≡ true → slice_get ps k ≡ Some m → k + 1 ≡ length ps → IsNeighbour r ps k m (slice_index_or ps 0 d)
ring_last r [] k m d t i h = absurd (omega arith)
ring_last r (p ∷ ps) k m d t i h =
    let e = last_edge r p (p ∷ ps) k m (both_of (all_at r (p ∷ ps)) (turns_left p (p ∷ ps)) (ring_bounds r (p ∷ ps) t).2).1 h in
    rw (← get_or_from_slice_get (p ∷ ps) k m m i) (record { left = e.left; plane = λ s. e.plane (s - 1) })

-- ---- the list of the half-planes

edge_planes_length : (r : ℤ) (k : ℕ) (first : V2) (ps : List V2) → length (edge_planes r k first ps) ≡ length ps
edge_planes_length r k first [] = refl
edge_planes_length r k first (p ∷ []) = refl
edge_planes_length r k first (p ∷ q ∷ ps) = let e = edge_planes_length r k first (q ∷ ps) in omega (arith, e)

-- there are as many half-planes as points
pub length-ring_planes_of : (r : ℤ) (ps : List V2) (speed : ℕ) → length (ring_planes_of r ps speed) ≡ length ps
length-ring_planes_of r [] speed = refl
length-ring_planes_of r (p ∷ ps) speed = edge_planes_length r (speed - 1) p (p ∷ ps)

-- the polygon of a scenario's ring is the speed polygon
pub ring_planes_of-ring : (ring : ℕ) (r : ℤ) (ps : List V2) (speed : ℕ) → r ≡ ring_radius ring → ps ≡ ring_points ring → ring_planes_of r ps speed ≡ ring_planes ring speed
unfolding ring_planes
ring_planes_of-ring ring r ps speed e f = λ i. ring_planes_of (e i) (f i) speed

-- one half-plane pushed after another, in order, make up the list
pub take-next : (planes : List Plane) (k : ℕ) (plane : Plane) → slice_get planes k ≡ Some plane → take (k + 1) planes ≡ take k planes ++ plane ∷ []
take-next planes k plane e = take_more planes k plane (slice_get_within planes k plane e) ∙ ap (λ p. take k planes ++ p ∷ []) (get_or_from_slice_get planes k plane plane e)
