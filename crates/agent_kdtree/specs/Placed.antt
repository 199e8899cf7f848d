-- Places whose numbers are within the limits.
use Rattle.std.specs.Prelude.{◌^◌, ◌≤◌}
use Rattle.fixed_vec.specs.Vector.{IsBelow}
use Rattle.crowd_data.specs.declared.limits.TheConstants.{GREATEST_RADIUS, GREATEST_SPEED}
use Rattle.crowd_data.specs.declared.pair.Place.{Place}

-- a place of an agent of a scenario
pub record IsPlaced (place : Place) : Type 0 where
  pub pos : IsBelow place.pos (2 ^ 31)
  pub radius : place.radius ≤ GREATEST_RADIUS
  pub speed : place.speed ≤ GREATEST_SPEED
