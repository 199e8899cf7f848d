-- Whole vectors of the plane.
use Rattle.std.specs.Prelude.{ℕ, ◌<◌, ℤ, pos, neg_ℤ, ◌+ℤ◌, ◌-ℤ◌, ◌*ℤ◌, unsigned_abs}
use Rattle.fixed_vec.specs.declared.vector.V2.{V2}

-- the zero vector, or the origin
abbrev pub zero_vector : V2
zero_vector = record { x = pos 0; y = pos 0 }

-- the sum
abbrev pub plus : V2 → V2 → V2
plus a b = record { x = a.x +ℤ b.x; y = a.y +ℤ b.y }

-- the difference
abbrev pub minus : V2 → V2 → V2
minus a b = record { x = a.x -ℤ b.x; y = a.y -ℤ b.y }

-- the vector k times as long
abbrev pub times : ℤ → V2 → V2
times k a = record { x = k *ℤ a.x; y = k *ℤ a.y }

-- the vector the other way round
abbrev pub opposite : V2 → V2
opposite a = record { x = neg_ℤ a.x; y = neg_ℤ a.y }

-- the vector turned left by a right angle
abbrev pub perp : V2 → V2
perp a = record { x = neg_ℤ a.y; y = a.x }

-- the inner product
abbrev pub dot : V2 → V2 → ℤ
dot a b = a.x *ℤ b.x +ℤ a.y *ℤ b.y

-- the outer product, positive where b lies to the left of a
abbrev pub cross : V2 → V2 → ℤ
cross a b = a.x *ℤ b.y -ℤ a.y *ℤ b.x

-- the squared length
abbrev pub square : V2 → ℤ
square a = dot a a

-- each coordinate's size is below the bound
abbrev pub IsBelow : V2 → ℕ → Type 0
IsBelow a bound = (unsigned_abs a.x < bound) × (unsigned_abs a.y < bound)
