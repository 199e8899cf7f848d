-- Rings: points that go counter-clockwise round the origin at one distance, and the half-planes of their edges.
use Rattle.std.specs.Prelude.{◌≡◌, ℕ, ◌-◌, Bool, true, false, ◌&&◌, List, [], ◌∷◌, Some, slice_get, ℤ, pos, ◌+ℤ◌, ◌-ℤ◌, ◌*ℤ◌, ◌≤ℤ◌, ◌<ℤ◌, int_lt}
use Rattle.std.specs.List.{All}
use Rattle.std.specs.Ordering.{int_eq}
use Rattle.fixed_vec.specs.declared.vector.V2.{V2}
use Rattle.fixed_vec.specs.Vector.{cross, square}
use Rattle.fixed_vec.specs.Point.{IsIn, Rational}
use Rattle.crowd_data.specs.RingPlanes.{edge_plane, ring_planes, ring_planes_of}

-- the point is so far from the origin
abbrev pub is_at : ℤ → V2 → Bool
is_at radius p = int_eq (square p) (radius *ℤ radius)

abbrev pub all_at : ℤ → List V2 → Bool
all_at radius [] = true
all_at radius (p ∷ rest) = is_at radius p && all_at radius rest

-- each point has the next one to its left, and the last one has the first
abbrev pub turns_left : V2 → List V2 → Bool
turns_left first [] = true
turns_left first (p ∷ []) = int_lt (pos 0) (cross p first)
turns_left first (p ∷ next ∷ rest) = int_lt (pos 0) (cross p next) && turns_left first (next ∷ rest)

-- some points, counter-clockwise round the origin, all so far from it
abbrev pub is_round : ℤ → List V2 → Bool
is_round radius [] = false
is_round radius (first ∷ rest) = all_at radius (first ∷ rest) && turns_left first (first ∷ rest)

-- they are round, at a distance within the limit
abbrev pub is_ring : ℤ → List V2 → Bool
is_ring radius points = int_lt (pos 0) radius && (int_lt radius (pos 1024) && is_round radius points)

-- the neighbour of the point p at k: it lies to the left of p, and the edge from p to it has the k-th half-plane
pub record IsNeighbour (radius : ℤ) (points : List V2) (k : ℕ) (p neighbour : V2) : Type 0 where
  pub left : pos 0 <ℤ cross p neighbour
  pub plane : (speed : ℕ) → slice_get (ring_planes_of radius points speed) k ≡ Some (edge_plane radius (speed - 1) p neighbour)

-- 99 hundredths of the speed less one, less one, in hundredths
abbrev pub inner_reach : ℕ → ℤ
inner_reach speed = pos 99 *ℤ pos (speed - 1) -ℤ pos 100

-- the point is at most so far from the origin: well within the polygon of the speed
pub record IsInner (speed : ℕ) (p : Rational) : Type 0 where
  pub some : pos 0 ≤ℤ inner_reach speed
  pub near : (pos 10000 *ℤ (p.x *ℤ p.x +ℤ p.y *ℤ p.y)) ≤ℤ (inner_reach speed *ℤ inner_reach speed *ℤ (p.q *ℤ p.q))

-- the point is in the polygon of the speed, by some ring
abbrev pub IsInPolygon : ℕ → Rational → Type 0
IsInPolygon speed p = (ring : ℕ) × All (λ plane. IsIn plane p) (ring_planes ring speed)
