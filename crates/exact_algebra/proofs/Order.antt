-- Order and products over ℤ.
use Rattle.std.proofs.Common.{◌≡◌, ◌⊎◌, inl, inr, [], ◌∷◌, arith, ℤ, pos, negsuc, ◌+ℤ◌, ◌-ℤ◌, ◌*ℤ◌, ◌≤ℤ◌, ◌<ℤ◌}
use Rattle.std.proofs.lemmas.Int.{ints, by_lt_z}
use Rattle.exact_algebra.proofs.Ring.{quotes, equal, shown}

pub square_nonneg : (a : ℤ) → pos 0 ≤ℤ (a *ℤ a)
square_nonneg (pos a) = omega (arith, ints)
square_nonneg (negsuc a) = omega (arith, ints)

pub product_nonneg : (a b : ℤ) → pos 0 ≤ℤ a → pos 0 ≤ℤ b → pos 0 ≤ℤ (a *ℤ b)
product_nonneg (pos a) (pos b) h k = omega (arith, ints)
product_nonneg (pos a) (negsuc b) h k = absurd (omega (arith, ints))
product_nonneg (negsuc a) b h k = absurd (omega (arith, ints))

pub sum_nonneg : (a b : ℤ) → pos 0 ≤ℤ a → pos 0 ≤ℤ b → pos 0 ≤ℤ (a +ℤ b)
sum_nonneg a b h k = omega (arith, ints)

pub gap_nonneg : (a b : ℤ) → a ≤ℤ b → pos 0 ≤ℤ (b -ℤ a)
gap_nonneg a b h = omega (arith, ints)

pub ruleset nonnegs = (square_nonneg, product_nonneg, sum_nonneg, gap_nonneg)

pub le_total : (a b : ℤ) → (a ≤ℤ b) ⊎ (b ≤ℤ a)
le_total a b = by_lt_z a b (λ h. inl (omega (arith, ints))) (λ h. inr h)

pub product-le : (a b c : ℤ) → pos 0 ≤ℤ c → a ≤ℤ b → (a *ℤ c) ≤ℤ (b *ℤ c)
product-le a b c h k = shown (a ∷ b ∷ c ∷ []) (product_nonneg (b -ℤ a) c (gap_nonneg a b k) h) (search quotes depth 30) tt

-- a positive factor of both sides goes
pub cancel : (a b c : ℤ) → pos 0 <ℤ c → (a *ℤ c) ≤ℤ (b *ℤ c) → a ≤ℤ b
cancel a b c h k = by_lt_z b a
    (λ less.
    let f : ((b +ℤ pos 1) *ℤ c) ≤ℤ (a *ℤ c) = product-le (b +ℤ pos 1) a c (omega (arith, ints)) (omega (arith, ints)) in
    let e : (b +ℤ pos 1) *ℤ c ≡ b *ℤ c +ℤ c = equal (b ∷ c ∷ []) (search quotes depth 30) tt in
    omega (arith, ints))
    (λ h. h)
