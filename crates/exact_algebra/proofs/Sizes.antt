-- Sizes of whole numbers: squares and their order, and products of positive numbers.
use Rattle.std.proofs.Common.{◌≡◌, ℕ, ◌*◌, ◌<◌, ◌≤◌, ⊎_elim, [], ◌∷◌, arith, ℤ, pos, negsuc, ◌+ℤ◌, ◌-ℤ◌, ◌*ℤ◌, ◌≤ℤ◌, ◌<ℤ◌, unsigned_abs, mul-le-mul}
use Rattle.std.proofs.lemmas.Int.{ints, by_lt_z}
use Rattle.std.proofs.lemmas.Bool.{cases_lt}
use Rattle.std.proofs.lemmas.Nat.{mul-lt}
use Rattle.exact_algebra.proofs.Ring.{quotes, equal}
use Rattle.exact_algebra.proofs.Order.{product_nonneg}

-- a square is that of the size
pub square_abs : (z : ℤ) → z *ℤ z ≡ pos (unsigned_abs z * unsigned_abs z)
square_abs (pos n) = omega (arith, ints)
square_abs (negsuc n) = omega (arith, ints)

-- the order of squares is that of the numbers
pub root_lt : (a b : ℕ) → a * a < b * b → a < b
root_lt a b h = ⊎_elim (λ k. k) (λ k. absurd (omega (arith, mul-le-mul k k))) (cases_lt a b)

pub root_le : (a b : ℕ) → a * a ≤ b * b → a ≤ b
root_le a b h = ⊎_elim (λ k. absurd (omega (arith, mul-lt b b a a k k))) (λ k. k) (cases_lt b a)

pub whole_root_le : (a b : ℤ) → pos 0 ≤ℤ b → (a *ℤ a) ≤ℤ (b *ℤ b) → a ≤ℤ b
whole_root_le a b h k = by_lt_z b a
    (λ less.
    let z : pos 0 ≤ℤ ((a -ℤ b -ℤ pos 1) *ℤ (a +ℤ b +ℤ pos 1)) = product_nonneg (a -ℤ b -ℤ pos 1) (a +ℤ b +ℤ pos 1) (omega (arith, ints)) (omega (arith, ints)) in
    let e : (a -ℤ b -ℤ pos 1) *ℤ (a +ℤ b +ℤ pos 1) ≡ a *ℤ a -ℤ b *ℤ b -ℤ pos 2 *ℤ b -ℤ pos 1 = equal (a ∷ b ∷ []) (search quotes depth 30) tt in
    omega (arith, ints))
    (λ l. l)

pub product_positive : (a b : ℤ) → pos 0 <ℤ a → pos 0 <ℤ b → pos 0 <ℤ (a *ℤ b)
product_positive a b h k =
    let z : pos 0 ≤ℤ ((a -ℤ pos 1) *ℤ b) = product_nonneg (a -ℤ pos 1) b (omega (arith, ints)) (omega (arith, ints)) in
    let i : (a -ℤ pos 1) *ℤ b ≡ a *ℤ b -ℤ b = equal (a ∷ b ∷ []) (search quotes depth 30) tt in
    omega (arith, ints)
