-- How large roots, products and quotients are.
use Rattle.std.proofs.Common.{◌≡◌, [], ◌∷◌, arith, ℤ, pos, neg_ℤ, ◌+ℤ◌, ◌-ℤ◌, ◌*ℤ◌, ◌≤ℤ◌, ◌<ℤ◌}
use Rattle.std.proofs.lemmas.Int.{ints, by_lt_z}
use Rattle.exact_algebra.specs.Numbers.{ceil}
use Rattle.exact_algebra.proofs.Ring.{quotes, equal}
use Rattle.exact_algebra.proofs.Order.{product_nonneg, cancel}
use Rattle.exact_algebra.proofs.Rounding.{ceil_ge, ceil_lt}

-- a quotient, rounded up, of what is at most d b in size is at most b in size
pub ceil_within : (z d b : ℤ) → pos 0 <ℤ d → neg_ℤ (b *ℤ d) ≤ℤ z → z ≤ℤ (b *ℤ d) → (neg_ℤ b ≤ℤ ceil z d) × (ceil z d ≤ℤ b)
ceil_within z d b h low high = within (ceil z d) (ceil_ge z d h) (ceil_lt z d h)
  where
    within : (c : ℤ) → z ≤ℤ (c *ℤ d) → (c *ℤ d) <ℤ (z +ℤ d) → (neg_ℤ b ≤ℤ c) × (c ≤ℤ b)
    within c f g =
        let e : (pos 0 -ℤ b) *ℤ d ≡ neg_ℤ (b *ℤ d) = equal (b ∷ d ∷ []) (search quotes depth 30) tt in
        let i : (b +ℤ pos 1) *ℤ d ≡ b *ℤ d +ℤ d = equal (b ∷ d ∷ []) (search quotes depth 30) tt in
        let l = cancel (pos 0 -ℤ b) c d h (omega (arith, ints)) in (
          omega (arith, ints),
          by_lt_z b c
              (λ more.
              let p : pos 0 ≤ℤ ((c -ℤ (b +ℤ pos 1)) *ℤ d) = product_nonneg (c -ℤ (b +ℤ pos 1)) d (omega (arith, ints)) (omega (arith, ints)) in
              let q : (c -ℤ (b +ℤ pos 1)) *ℤ d ≡ c *ℤ d -ℤ (b *ℤ d +ℤ d) = equal (b ∷ c ∷ d ∷ []) (search quotes depth 30) tt in
              absurd (omega (arith, ints)))
              (λ k. k),
        )
