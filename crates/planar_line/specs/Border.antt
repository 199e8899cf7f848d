-- Points on the border of a half-plane.
use Rattle.std.specs.Prelude.{ℕ, ◌≡◌, ◌≤◌, ℤ, ◌+ℤ◌, ◌-ℤ◌, ◌*ℤ◌, ◌≤ℤ◌, unsigned_abs}
use Rattle.fixed_vec.specs.declared.vector.V2.{V2}
use Rattle.fixed_vec.specs.Vector.{cross, square}
use Rattle.fixed_vec.specs.HalfPlane.{Plane}
use Rattle.fixed_vec.specs.Point.{Rational, IsPoint}

-- the greatest size of a preferred velocity's coordinates
abbrev pub greatest_preference : ℕ
greatest_preference = 16384

-- a whole point that an agent may prefer as its velocity
pub record IsPreference (v : V2) : Type 0 where
  pub across : unsigned_abs v.x ≤ greatest_preference
  pub along : unsigned_abs v.y ≤ greatest_preference

-- p is a point of the border of the half-plane
pub record IsOnBorder (plane : Plane) (p : Rational) : Type 0 where
  pub point : IsPoint p
  pub border : plane.c *ℤ p.q ≡ plane.n.x *ℤ p.x +ℤ plane.n.y *ℤ p.y

-- how far a point lies along the border, going left as the normal looks, times q
abbrev pub along : Plane → Rational → ℤ
along plane p = plane.n.x *ℤ p.y -ℤ plane.n.y *ℤ p.x

-- p comes no later along the border than v
abbrev pub IsBefore : Plane → Rational → Rational → Type 0
IsBefore plane p v = (along plane p *ℤ v.q) ≤ℤ (along plane v *ℤ p.q)

-- how far a whole point lies along the border beyond p, times q
abbrev pub lead_of : Plane → Rational → V2 → ℤ
lead_of plane p v = cross plane.n v *ℤ p.q -ℤ along plane p

-- (pref - p) . (v - p), times p.q p.q v.q
abbrev pub toward : V2 → Rational → Rational → ℤ
toward pref p v = (pref.x *ℤ p.q -ℤ p.x) *ℤ (v.x *ℤ p.q -ℤ p.x *ℤ v.q) +ℤ (pref.y *ℤ p.q -ℤ p.y) *ℤ (v.y *ℤ p.q -ℤ p.y *ℤ v.q)

-- the point of the border that is nearest to a whole point
abbrev pub foot_of : Plane → V2 → Rational
foot_of plane v = record {
  x = plane.n.x *ℤ plane.c -ℤ plane.n.y *ℤ cross plane.n v;
  y = plane.n.y *ℤ plane.c +ℤ plane.n.x *ℤ cross plane.n v;
  q = square plane.n;
}

-- the point where two borders cross, the second turned left against the first
abbrev pub crossing_of : Plane → Plane → Rational
crossing_of first second = record {
  x = first.c *ℤ second.n.y -ℤ second.c *ℤ first.n.y;
  y = first.n.x *ℤ second.c -ℤ second.n.x *ℤ first.c;
  q = cross first.n second.n;
}
