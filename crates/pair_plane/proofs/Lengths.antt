-- How long vectors with small coordinates are, and how large inner products are in lengths.
use Rattle.std.proofs.Common.{ℕ, ◌*◌, ◌≤◌, subst, arith, pos, ◌*ℤ◌, ◌≤ℤ◌, unsigned_abs, mul-le-mul}
use Rattle.std.proofs.lemmas.Int.{ints}
use Rattle.exact_algebra.proofs.Cauchy.{along_le}
use Rattle.exact_algebra.proofs.Sizes.{root_le, square_abs}
use Rattle.fixed_vec.specs.declared.vector.V2.{V2}
use Rattle.fixed_vec.specs.Vector.{dot, square}
use Rattle.fixed_vec.specs.HalfPlane.{whole_length}
use Rattle.fixed_vec.proofs.Lengths.{length_le, length_reaches}
use Rattle.fixed_vec.proofs.Squares.{square_whole}
use Rattle.crowd_data.specs.Limits.{IsWithin}

-- how long a vector with small coordinates is
pub square_le : (n : V2) (b : ℕ) → IsWithin n b → square n ≤ℤ pos (2 * (b * b))
square_le n b h = omega (arith, ints, square_abs n.x, square_abs n.y, mul-le-mul h.0 h.0, mul-le-mul h.1 h.1)

pub length_le_twice : (n : V2) (b : ℕ) → IsWithin n b → whole_length n ≤ 2 * b
length_le_twice n b h = length_le n (2 * b) (omega (arith, ints, square_le n b h))

-- Cauchy's inequality, with whole lengths
pub dot_le : (n v : V2) (b : ℕ) → square v ≤ℤ pos (b * b) → unsigned_abs (dot n v) ≤ b * whole_length n
dot_le n v b h = root_le (unsigned_abs (dot n v)) (b * whole_length n)
    (by (unsigned_abs (square n)) (unsigned_abs (square v)) (whole_length n)
    (omega (arith, ints, length_reaches n, square_whole n))
    (omega (arith, ints, square_whole v))
    (let e : (dot n v *ℤ dot n v) ≤ℤ (pos (unsigned_abs (square v)) *ℤ pos (unsigned_abs (square n))) =
    subst (λ z. (dot n v *ℤ dot n v) ≤ℤ (z *ℤ pos (unsigned_abs (square n)))) (square_whole v)
    (subst (λ z. (dot n v *ℤ dot n v) ≤ℤ (square v *ℤ z)) (square_whole n) (along_le n.x n.y v.x v.y)) in
    omega (arith, ints, square_abs (dot n v))))
  where
    by : (nn vv l : ℕ) → nn ≤ l * l → vv ≤ b * b → unsigned_abs (dot n v) * unsigned_abs (dot n v) ≤ vv * nn → unsigned_abs (dot n v) * unsigned_abs (dot n v) ≤ (b * l) * (b * l)
    by nn vv l p q k = omega (arith, mul-le-mul q p)
