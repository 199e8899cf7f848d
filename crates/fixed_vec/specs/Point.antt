-- Rational points, and their rounding to whole ones.
use Rattle.std.specs.Prelude.{ℕ, ◌^◌, ◌<◌, ℤ, pos, ◌+ℤ◌, ◌*ℤ◌, ◌≤ℤ◌, ◌<ℤ◌, unsigned_abs}
use Rattle.exact_algebra.specs.Numbers.{floor}
use Rattle.fixed_vec.specs.declared.vector.V2.{V2}
use Rattle.fixed_vec.specs.HalfPlane.{Plane}

-- the point (x/q, y/q)
pub record Rational : Type 0 where
  pub x : ℤ
  pub y : ℤ
  pub q : ℤ

-- it is a point: its denominator is positive
abbrev pub IsPoint : Rational → Type 0
IsPoint p = pos 0 <ℤ p.q

-- a whole point has the denominator 1
abbrev pub whole : V2 → Rational
whole v = record { x = v.x; y = v.y; q = pos 1 }

-- the point is in the half-plane: n . p is at least c
abbrev pub IsIn : Plane → Rational → Type 0
IsIn plane p = (plane.c *ℤ p.q) ≤ℤ (plane.n.x *ℤ p.x +ℤ plane.n.y *ℤ p.y)

-- the point is no farther than k from the origin
abbrev pub IsShort : ℕ → Rational → Type 0
IsShort k p = (p.x *ℤ p.x +ℤ p.y *ℤ p.y) ≤ℤ (pos k *ℤ pos k *ℤ (p.q *ℤ p.q))

-- the whole point nearest to p, halves upwards
abbrev pub rounded_of : Rational → V2
rounded_of p = record { x = floor (pos 2 *ℤ p.x +ℤ p.q) (pos 2 *ℤ p.q); y = floor (pos 2 *ℤ p.y +ℤ p.q) (pos 2 *ℤ p.q) }

-- the bounds that each point of the code keeps
pub record FitsPoint (p : Rational) : Type 0 where
  pub positive : pos 0 <ℤ p.q
  pub divisor : p.q <ℤ pos (2 ^ 65)
  pub across : unsigned_abs p.x < 2 ^ 87
  pub along : unsigned_abs p.y < 2 ^ 87
