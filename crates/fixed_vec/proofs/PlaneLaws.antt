-- What rounding does to a coordinate, and what the determinant of three half-planes tells.
use Rattle.std.proofs.Common.{◌≡◌, [], ◌∷◌, arith, ℤ, pos, ◌+ℤ◌, ◌-ℤ◌, ◌*ℤ◌, ◌≤ℤ◌, ◌<ℤ◌, unsigned_abs}
use Rattle.std.proofs.lemmas.Int.{ints}
use Rattle.exact_algebra.specs.Numbers.{floor}
use Rattle.exact_algebra.proofs.Ring.{quotes, equal}
use Rattle.exact_algebra.proofs.Rounding.{floor_le, floor_gt}
use Rattle.fixed_vec.specs.Vector.{cross}
use Rattle.fixed_vec.specs.HalfPlane.{Plane, determinant}
use Rattle.fixed_vec.specs.Point.{Rational, rounded_of}

by_half : (x q : ℤ) → pos 0 <ℤ q → pos (unsigned_abs (pos 2 *ℤ x -ℤ floor (pos 2 *ℤ x +ℤ q) (pos 2 *ℤ q) *ℤ (pos 2 *ℤ q))) ≤ℤ q
by_half x q h =
    let double : pos 0 <ℤ (pos 2 *ℤ q) = omega (arith, ints) in
    let low = floor_le (pos 2 *ℤ x +ℤ q) (pos 2 *ℤ q) double in
    let high = floor_gt (pos 2 *ℤ x +ℤ q) (pos 2 *ℤ q) double in
    omega (arith, ints)

-- rounding moves x/q by at most a half: |2 x - 2 q r| is at most q
pub rounded_across : (p : Rational) → pos 0 <ℤ p.q → pos (unsigned_abs (pos 2 *ℤ p.x -ℤ (rounded_of p).x *ℤ (pos 2 *ℤ p.q))) ≤ℤ p.q
rounded_across p h = by_half p.x p.q h

-- and y/q
pub rounded_along : (p : Rational) → pos 0 <ℤ p.q → pos (unsigned_abs (pos 2 *ℤ p.y -ℤ (rounded_of p).y *ℤ (pos 2 *ℤ p.q))) ≤ℤ p.q
rounded_along p h = by_half p.y p.q h

-- where the borders of two half-planes cross whose normals turn to the left
abbrev pub crossing : Plane → Plane → Rational
crossing a b = record {
  x = a.c *ℤ b.n.y -ℤ b.c *ℤ a.n.y;
  y = a.n.x *ℤ b.c -ℤ b.n.x *ℤ a.c;
  q = a.n.x *ℤ b.n.y -ℤ a.n.y *ℤ b.n.x;
}

-- the determinant is how far, times q, the crossing of the first two lies outside the third
pub outside_by_determinant : (a b d : Plane) → d.c *ℤ (crossing a b).q -ℤ (d.n.x *ℤ (crossing a b).x +ℤ d.n.y *ℤ (crossing a b).y) ≡ determinant a b d
outside_by_determinant a b d =
    equal (a.n.x ∷ a.n.y ∷ a.c ∷ b.n.x ∷ b.n.y ∷ b.c ∷ d.n.x ∷ d.n.y ∷ d.c ∷ []) (search quotes depth 40 fits 20000) tt

-- the determinant by its third column: each offset times the outer product of the other normals
pub determinant_by_offsets : (a b d : Plane) → a.c *ℤ cross b.n d.n -ℤ b.c *ℤ cross a.n d.n +ℤ d.c *ℤ cross a.n b.n ≡ determinant a b d
determinant_by_offsets a b d =
    equal (a.n.x ∷ a.n.y ∷ a.c ∷ b.n.x ∷ b.n.y ∷ b.c ∷ d.n.x ∷ d.n.y ∷ d.c ∷ []) (search quotes depth 40 fits 20000) tt
