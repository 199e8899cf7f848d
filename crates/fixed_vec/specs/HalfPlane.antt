-- Half-planes with whole normals: their length, drawing in and relief.
use Rattle.std.specs.Prelude.{ℕ, ◌+◌, ◌*◌, ◌^◌, ◌<◌, ℤ, pos, ◌+ℤ◌, ◌-ℤ◌, ◌*ℤ◌, ◌<ℤ◌, unsigned_abs}
use Rattle.std.specs.Int.{div_ceil}
use Rattle.exact_algebra.specs.Numbers.{ceil_root}
use Rattle.fixed_vec.specs.declared.vector.V2.{V2}
use Rattle.fixed_vec.specs.Vector.{square}

-- the half-plane of the points v with n . v at least c
pub record Plane : Type 0 where
  pub n : V2
  pub c : ℤ

-- the length of a normal, rounded up: the least whole number whose square is at least n . n
abbrev pub whole_length : V2 → ℕ
whole_length n = ceil_root (unsigned_abs (square n))

-- the half-plane drawn in by half of |n.x| + |n.y|, rounded up: as much as rounding can take away
abbrev pub drawn_of : Plane → Plane
drawn_of plane = record { n = plane.n; c = plane.c +ℤ pos (div_ceil (unsigned_abs plane.n.x + unsigned_abs plane.n.y) 2) }

-- the half-plane moved back by so many lengths of its normal
abbrev pub relieved_of : Plane → ℕ → Plane
relieved_of plane relief = record { n = plane.n; c = plane.c -ℤ pos (relief * whole_length plane.n) }

-- the bounds that each half-plane of the code keeps
pub record FitsPlane (plane : Plane) : Type 0 where
  pub nonzero : pos 0 <ℤ square plane.n
  pub normal : square plane.n <ℤ pos (2 ^ 64)
  pub offset : unsigned_abs plane.c < 2 ^ 53

-- the determinant of the rows (n.x, n.y, c)
abbrev pub determinant : Plane → Plane → Plane → ℤ
determinant a b d =
    a.n.x *ℤ (b.n.y *ℤ d.c -ℤ b.c *ℤ d.n.y) -ℤ a.n.y *ℤ (b.n.x *ℤ d.c -ℤ b.c *ℤ d.n.x) +ℤ a.c *ℤ (b.n.x *ℤ d.n.y -ℤ b.n.y *ℤ d.n.x)
