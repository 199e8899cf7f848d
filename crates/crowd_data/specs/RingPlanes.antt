-- The speed polygon: half-planes between which every rounded velocity keeps within the greatest speed.
use Rattle.std.specs.Prelude.{ℕ, ◌-◌, ◌==◌, if◌then◌else◌, List, [], ◌∷◌, ◌++◌, map, ℤ, pos, ◌*ℤ◌}
use Rattle.exact_algebra.specs.Numbers.{ceil}
use Rattle.fixed_vec.specs.declared.vector.V2.{V2}
use Rattle.fixed_vec.specs.Vector.{dot, minus, opposite, perp}
use Rattle.fixed_vec.specs.HalfPlane.{Plane}
use Rattle.crowd_data.specs.Limits.{fine_ring}

-- the whole points at distance 65 from the origin in one quarter, counter-clockwise
abbrev pub plain_quarter : List V2
plain_quarter =
    record { x = pos 65; y = pos 0 }
    ∷ record { x = pos 63; y = pos 16 }
    ∷ record { x = pos 60; y = pos 25 }
    ∷ record { x = pos 56; y = pos 33 }
    ∷ record { x = pos 52; y = pos 39 }
    ∷ record { x = pos 39; y = pos 52 }
    ∷ record { x = pos 33; y = pos 56 }
    ∷ record { x = pos 25; y = pos 60 }
    ∷ record { x = pos 16; y = pos 63 }
    ∷ []

-- the whole points at distance 325 from the origin in one quarter, counter-clockwise
abbrev pub fine_quarter : List V2
fine_quarter =
    record { x = pos 325; y = pos 0 }
    ∷ record { x = pos 323; y = pos 36 }
    ∷ record { x = pos 315; y = pos 80 }
    ∷ record { x = pos 312; y = pos 91 }
    ∷ record { x = pos 300; y = pos 125 }
    ∷ record { x = pos 280; y = pos 165 }
    ∷ record { x = pos 260; y = pos 195 }
    ∷ record { x = pos 253; y = pos 204 }
    ∷ record { x = pos 204; y = pos 253 }
    ∷ record { x = pos 195; y = pos 260 }
    ∷ record { x = pos 165; y = pos 280 }
    ∷ record { x = pos 125; y = pos 300 }
    ∷ record { x = pos 91; y = pos 312 }
    ∷ record { x = pos 80; y = pos 315 }
    ∷ record { x = pos 36; y = pos 323 }
    ∷ []

-- a quarter and its three turns by a right angle: all the way round
abbrev pub all_round : List V2 → List V2
all_round points = points ++ map perp points ++ map opposite points ++ map (λ p. opposite (perp p)) points

-- the points of a ring, by their count: the fine ring, or else the plain one
abbrev pub ring_points : ℕ → List V2
ring_points ring = if ring == fine_ring then all_round fine_quarter else all_round plain_quarter

-- and their distance from the origin
abbrev pub ring_radius : ℕ → ℤ
ring_radius ring = if ring == fine_ring then pos 325 else pos 65

-- the half-plane of the edge from a point m to its neighbour, k being the speed less one:
-- its normal is perp of the edge, its offset the border's own at distance k, rounded up
abbrev pub edge_plane : ℤ → ℕ → V2 → V2 → Plane
edge_plane radius k m neighbour =
    record { n = perp (minus neighbour m); c = ceil (pos k *ℤ dot (perp (minus neighbour m)) m) radius }

-- the half-planes of all edges, the last point's neighbour being the first
abbrev pub edge_planes : ℤ → ℕ → V2 → List V2 → List Plane
edge_planes radius k first [] = []
edge_planes radius k first (m ∷ []) = edge_plane radius k m first ∷ []
edge_planes radius k first (m ∷ neighbour ∷ rest) = edge_plane radius k m neighbour ∷ edge_planes radius k first (neighbour ∷ rest)

-- the half-planes of a ring of points at a distance from the origin, for a greatest speed; one unit of
-- the speed is left for the rounding
abbrev pub ring_planes_of : ℤ → List V2 → ℕ → List Plane
ring_planes_of radius [] speed = []
ring_planes_of radius (first ∷ rest) speed = edge_planes radius (speed - 1) first (first ∷ rest)

-- the speed polygon of a greatest speed, by the count of the ring's points
unfoldable pub ring_planes : ℕ → ℕ → List Plane
ring_planes ring speed = ring_planes_of (ring_radius ring) (ring_points ring) speed
