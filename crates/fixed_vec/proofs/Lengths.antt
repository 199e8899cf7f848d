-- The whole length of a vector.
use Rattle.std.proofs.Common.{ℕ, ◌*◌, ◌≤◌, ⊎_elim, arith, pos, ◌≤ℤ◌, ◌<ℤ◌, unsigned_abs}
use Rattle.std.proofs.lemmas.Int.{ints}
use Rattle.std.proofs.lemmas.Bool.{cases_lt}
use Rattle.exact_algebra.proofs.Rounding.{ceil_root_reaches, ceil_root_first}
use Rattle.exact_algebra.proofs.Sizes.{root_le, root_lt, square_abs}
use Rattle.fixed_vec.specs.declared.vector.V2.{V2}
use Rattle.fixed_vec.specs.Vector.{IsBelow, square}
use Rattle.fixed_vec.specs.HalfPlane.{whole_length}
use Rattle.fixed_vec.proofs.Squares.{square_whole}

-- a vector shorter than b has coordinates below b
pub coordinates_lt : (n : V2) (b : ℕ) → square n <ℤ pos (b * b) → IsBelow n b
coordinates_lt n b h =
    let e = square_abs n.x in let f = square_abs n.y in
    (root_lt (unsigned_abs n.x) b (omega (arith, ints)), root_lt (unsigned_abs n.y) b (omega (arith, ints)))

-- the whole length reaches the length
pub length_reaches : (n : V2) → square n ≤ℤ pos (whole_length n * whole_length n)
length_reaches n = let e = square_whole n in let h = ceil_root_reaches (unsigned_abs (square n)) in omega (arith, ints)

-- and is the least that does
pub length_le : (n : V2) (b : ℕ) → square n ≤ℤ pos (b * b) → whole_length n ≤ b
length_le n b h =
    let e = square_whole n in
    ⊎_elim (λ k. absurd (omega (arith, ints, ceil_root_first (unsigned_abs (square n)) b k))) (λ k. k) (cases_lt b (whole_length n))

-- no coordinate is longer
pub coordinates_le : (n : V2) → (unsigned_abs n.x ≤ whole_length n) × (unsigned_abs n.y ≤ whole_length n)
coordinates_le n =
    let h = length_reaches n in let e = square_abs n.x in let f = square_abs n.y in
    (root_le (unsigned_abs n.x) (whole_length n) (omega (arith, ints)), root_le (unsigned_abs n.y) (whole_length n) (omega (arith, ints)))
