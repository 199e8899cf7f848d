-- The speed polygons of the agents of a scenario, as they are kept.
use Rattle.std.specs.Prelude.{◌≡◌, ◌++◌, ℕ, List}
use Rattle.fixed_vec.specs.HalfPlane.{Plane}
use Rattle.crowd_data.specs.RingPlanes.{ring_planes}
use Rattle.agent_step.specs.SharedPolygons.{at_places}
use Rattle.agent_step.specs.declared.polygons.Sides.{Sides}
use Rattle.agent_step.specs.declared.polygons.Sides.TheVariants.{Plain, Fine}

-- all polygons, by whichever ring
abbrev pub in_all : Sides → List (List Plane)
in_all (Plain shared) = at_places shared.polygons.items shared.places.items
in_all (Fine shared) = at_places shared.polygons.items shared.places.items

-- the speed polygon of a speed, by some ring
abbrev pub IsPolygon : List Plane → ℕ → Type 0
IsPolygon planes speed = (ring : ℕ) × (planes ≡ ring_planes ring speed)

-- the half-planes begin with one
abbrev pub BeginWithPolygon : List Plane → ℕ → Type 0
BeginWithPolygon planes speed = (ring : ℕ) × (rest : List Plane) × (planes ≡ ring_planes ring speed ++ rest)
