-- A stretch of a border.
use Rattle.std.specs.Prelude.{Option, pos, ◌<ℤ◌, ◌↔◌}
use Rattle.std.specs.Option.{ForSome}
use Rattle.fixed_vec.specs.Vector.{square}
use Rattle.fixed_vec.specs.HalfPlane.{Plane}
use Rattle.fixed_vec.specs.Point.{Rational}
use Rattle.planar_line.specs.Border.{IsOnBorder, IsBefore}

-- a stretch of the border of a half-plane, between two ends that may be missing
pub record Stretch : Type 0 where
  pub border : Plane
  pub low : Option Rational
  pub high : Option Rational

-- the ends are on the border, the low one no later than the high one
pub record IsStretch (s : Stretch) : Type 0 where
  pub nonzero : pos 0 <ℤ square s.border.n
  pub low : ForSome s.low (IsOnBorder s.border)
  pub high : ForSome s.high (IsOnBorder s.border)
  pub ordered : ForSome s.low (λ low. ForSome s.high (λ high. IsBefore s.border low high))

-- p is a point of the border between the ends
pub record IsOnStretch (s : Stretch) (p : Rational) : Type 0 where
  pub on : IsOnBorder s.border p
  pub after : ForSome s.low (λ low. IsBefore s.border low p)
  pub before : ForSome s.high (λ high. IsBefore s.border p high)

-- s has the points of r of which P holds
abbrev pub IsPart : Stretch → Stretch → (Rational → Type 0) → Type 0
IsPart s r P = (p : Rational) → IsOnStretch s p ↔ (IsOnStretch r p × P p)
