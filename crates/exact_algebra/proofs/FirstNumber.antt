-- The least number of which a test holds, where each number passes or fails it.
use Rattle.std.proofs.Common.{◌≡◌, ◌⊎◌, inl, inr, ⊎_elim, ℕ, zero, suc, ◌<◌, subst, arith}
use Rattle.std.proofs.lemmas.Bool.{cases_lt}

module _ (Fails Passes : ℕ → Type 0) (either : (k : ℕ) → Fails k ⊎ Passes k) where
  -- each number below this one fails
  abbrev pub AllFail : ℕ → Type 0
  AllFail count = (k : ℕ) → k < count → Fails k

  -- a number below this one is the first that passes
  abbrev pub HasFirst : ℕ → Type 0
  HasFirst count = (k : ℕ) × (k < count) × AllFail k × Passes k

  one_more : (count : ℕ) → AllFail count → Fails count → AllFail (suc count)
  one_more count all last k h = ⊎_elim (λ less. all k less) (λ more. let same : count ≡ k = omega arith in subst Fails same last) (cases_lt k count)

  pub first_below : (count : ℕ) → AllFail count ⊎ HasFirst count
  first_below zero = inl (λ k h. absurd (omega arith))
  first_below (suc count) = ⊎_elim
      (λ all. ⊎_elim (λ fails. inl (one_more count all fails)) (λ passes. inr (count, omega arith, all, passes)) (either count))
      (λ (k, below, all, passes). inr (k, omega arith, all, passes))
      (first_below count)

  -- where some number doesn't fail, one is the first that passes
  pub first_by : (count : ℕ) → ¬ Fails count → HasFirst (suc count)
  first_by count not = ⊎_elim (λ all. absurd (not (all count (omega arith)))) (λ first. first) (first_below (suc count))
