-- What is known of a point of the speed polygon.
use Rattle.std.proofs.Common.{◌≡◌, ◌≤◌, List, ℕ, subst, map, arith, take, ℤ, pos, ◌*ℤ◌, ◌≤ℤ◌, unsigned_abs}
use Rattle.std.specs.List.{All}
use Rattle.std.proofs.lemmas.Int.{ints}
use Rattle.fixed_vec.specs.declared.vector.V2.{V2}
use Rattle.fixed_vec.specs.Vector.{square}
use Rattle.fixed_vec.specs.HalfPlane.{Plane}
use Rattle.fixed_vec.specs.Meeting.{Meeting, relieved_after}
use Rattle.fixed_vec.specs.Point.{IsIn, Rational}
use Rattle.crowd_data.specs.Limits.{IsVelocity}
use Rattle.crowd_data.specs.RingPlanes.{ring_planes, ring_planes_of, ring_points, ring_radius}
use Rattle.hard_plane.proofs.RingPoints.{ring_planes_of-ring}
use Rattle.crowd_data.specs.declared.agent.Agent.{Agent}
use Rattle.crowd_data.specs.declared.limits.TheConstants.{GREATEST_SPEED}
use Rattle.hard_plane.specs.Ring.{IsInPolygon}
use Rattle.agent_step.specs.Polygons.{BeginWithPolygon, IsPolygon}
use Rattle.exact_algebra.proofs.Sizes.{square_abs, root_le}
use Rattle.exact_algebra.proofs.Elements.{front_of}

-- what is in all half-planes, some of them relieved, is in the hard ones
pub meets_hard : (planes : List Plane) (hard relief : ℕ) (p : Rational) → Meeting (relieved_after hard relief planes) p → Meeting (take hard planes) p
meets_hard planes hard relief p h = record { point = h.point; inside = front_of (λ plane. IsIn plane p) (take hard planes) _ h.inside }

-- and, where these begin with a speed polygon, in that
pub meets_polygon : (planes : List Plane) (hard relief speed : ℕ) (p : Rational) → BeginWithPolygon (take hard planes) speed → Meeting (relieved_after hard relief planes) p → IsInPolygon speed p
meets_polygon planes hard relief speed p (ring, rest, are) h =
    let inside = subst (λ (list : List Plane). Meeting list p) are (meets_hard planes hard relief p h) in
    (ring, front_of (λ plane. IsIn plane p) (ring_planes ring speed) rest inside.inside)

-- what is in all half-planes of a speed polygon
pub in_polygon : (polygon : List Plane) (speed : ℕ) (p : Rational) → IsPolygon polygon speed → All (λ plane. IsIn plane p) polygon → IsInPolygon speed p
in_polygon polygon speed p (ring, are) inside = (ring, subst (λ (list : List Plane). All (λ plane. IsIn plane p) list) are inside)

-- the polygons of agents by a ring of the code
pub polygons_by : (ring : ℕ) (radius : ℤ) (points : List V2) (agents : List Agent) → radius ≡ ring_radius ring → points ≡ ring_points ring
    → map (λ (agent : Agent). ring_planes_of radius points agent.speed) agents ≡ map (λ (agent : Agent). ring_planes ring agent.speed) agents
polygons_by ring radius points agents e f = λ i. map (λ (agent : Agent). ring_planes_of-ring ring radius points agent.speed e f i) agents

-- ---- a velocity that is no longer than a speed

pub short_velocity : (v : V2) (speed : ℕ) → speed ≤ GREATEST_SPEED → square v ≤ℤ (pos speed *ℤ pos speed) → IsVelocity v
short_velocity v speed most h =
    let e = square_abs v.x in
    let f = square_abs v.y in
    let across : unsigned_abs v.x ≤ speed = root_le (unsigned_abs v.x) speed (omega (arith, ints)) in
    let along : unsigned_abs v.y ≤ speed = root_le (unsigned_abs v.y) speed (omega (arith, ints)) in
    (omega arith, omega arith)
