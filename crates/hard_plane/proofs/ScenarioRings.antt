-- The ring of a scenario, whichever it is, goes round the origin.
use Rattle.std.proofs.Common.{◌≡◌, ℕ, ◌-◌, ◌≤◌, Bool, true, false, cond, eqb, List, All, length, refl, sym, subst, arith, ℤ, pos, ◌<ℤ◌}
use Rattle.std.proofs.lemmas.Int.{ints}
use Rattle.fixed_vec.specs.declared.vector.V2.{V2}
use Rattle.fixed_vec.specs.Point.{IsIn, IsShort, Rational}
use Rattle.crowd_data.specs.Limits.{fine_ring}
use Rattle.crowd_data.specs.RingPlanes.{all_round, fine_quarter, plain_quarter, ring_planes, ring_points, ring_radius}
use Rattle.crowd_data.specs.declared.limits.TheConstants.{FINE_RING}
use Rattle.hard_plane.specs.Ring.{is_round}
use Rattle.hard_plane.proofs.RingPoints.{length-ring_planes_of, ring_planes_of-ring}
use Rattle.hard_plane.proofs.SpeedPolygon.{ring_short}

-- what holds of both rings
pub by_ring : (P : ℤ → List V2 → Type 0) → P (pos 325) (all_round fine_quarter) → P (pos 65) (all_round plain_quarter) → (ring : ℕ) → P (ring_radius ring) (ring_points ring)
by_ring P fine plain ring = by (eqb ring fine_ring)
  where
    by : (b : Bool) → P (cond b (pos 325) (pos 65)) (cond b (all_round fine_quarter) (all_round plain_quarter))
    by true = fine
    by false = plain

pub round : (ring : ℕ) → is_round (ring_radius ring) (ring_points ring) ≡ true
round = by_ring (λ r ps. is_round r ps ≡ true) refl refl

pub some_radius : (ring : ℕ) → pos 0 <ℤ ring_radius ring
some_radius = by_ring (λ r ps. pos 0 <ℤ r) (omega (arith, ints)) (omega (arith, ints))

few_points : (ring : ℕ) → length (ring_points ring) ≤ FINE_RING
few_points = by_ring (λ r ps. length ps ≤ FINE_RING) (omega arith) (omega arith)

-- a point of the speed polygon is no longer than the speed less one
pub polygon_short : (ring speed : ℕ) (p : Rational) → pos 0 <ℤ p.q → All (λ plane. IsIn plane p) (ring_planes ring speed) → IsShort (speed - 1) p
polygon_short ring speed p point inside =
    ring_short (ring_radius ring) (ring_points ring) speed p (some_radius ring) point (round ring)
    (subst (λ planes. All (λ plane. IsIn plane p) planes) (sym (ring_planes_of-ring ring (ring_radius ring) (ring_points ring) speed refl refl)) inside)

-- a speed polygon has at most 60 half-planes
pub length-ring_planes_le : (ring speed : ℕ) → length (ring_planes ring speed) ≤ FINE_RING
length-ring_planes_le ring speed =
    subst (λ planes. length planes ≤ FINE_RING) (ring_planes_of-ring ring (ring_radius ring) (ring_points ring) speed refl refl)
    (rw (length-ring_planes_of (ring_radius ring) (ring_points ring) speed) (few_points ring))
