use Rattle.std.proofs.Common.{◌≡◌, ℕ, ℤ, List, All, sym, subst, arith}
use Rattle.fixed_vec.specs.declared.vector.V2.{V2}
use Rattle.fixed_vec.specs.Point.{IsIn, Rational}
use Rattle.crowd_data.specs.RingPlanes.{ring_planes, ring_planes_of, ring_points, ring_radius}
use Rattle.hard_plane.proofs.RingPoints.{ring_planes_of-ring}
use Rattle.geometry_tests.proofs.hard_planes.rounds_a_point_within_a_speed.Goals as goal

pub speed_law-requires-clause-inside : goal.speed_law-requires-clause-inside
speed_law-requires-clause-inside g c = (36, c.inner_law.ensures 36)

-- the planes of a ring are those of the inner law
by_ring : (ring : ℕ) (radius : ℤ) (points : List V2) (p : Rational) → radius ≡ ring_radius ring → points ≡ ring_points ring
    → All (λ plane. IsIn plane p) (ring_planes ring 66) → All (λ plane. IsIn plane p) (ring_planes_of radius points 66)
by_ring ring radius points p e f inside = subst (λ planes. All (λ plane. IsIn plane p) planes) (sym (ring_planes_of-ring ring radius points 66 e f)) inside

pub speed_law-requires-2 : goal.speed_law-requires-2
speed_law-requires-2 g c = (omega arith, (omega arith, by_ring 36 _ _ _ c.plain.ensures.radius c.plain.ensures.points (c.inner_law.ensures 36)))

pub speed_law-requires-3 : goal.speed_law-requires-3
speed_law-requires-3 g c = (omega arith, (omega arith, by_ring 60 _ _ _ c.fine.ensures.radius c.fine.ensures.points (c.inner_law.ensures 60)))
