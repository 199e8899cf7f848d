-- Half-planes that have a common point.
use Rattle.std.specs.Prelude.{List}
use Rattle.fixed_vec.specs.HalfPlane.{Plane}
use Rattle.fixed_vec.specs.Point.{Rational}
use Rattle.fixed_vec.specs.Meeting.{Meeting}

-- some rational point is in all of them
abbrev pub IsMet : List Plane → Type 0
IsMet planes = (p : Rational) × Meeting planes p
