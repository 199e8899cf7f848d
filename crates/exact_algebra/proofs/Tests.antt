-- What a comparison that came out true or false says.
use Rattle.std.proofs.Common.{◌≡◌, Bool, true, false, ◌&&◌, arith, ℤ, ◌≤ℤ◌, ◌<ℤ◌, int_le, int_lt, refl}
use Rattle.std.specs.Ordering.{int_eq}
use Rattle.std.proofs.lemmas.Int.{ints}

pub le_true : (a b : ℤ) → int_le a b ≡ true → a ≤ℤ b
le_true a b t = grind (arith, ints)

pub le_false : (a b : ℤ) → int_le a b ≡ false → b <ℤ a
le_false a b t = grind (arith, ints)

pub lt_true : (a b : ℤ) → int_lt a b ≡ true → a <ℤ b
lt_true a b t = grind (arith, ints)

pub lt_false : (a b : ℤ) → int_lt a b ≡ false → b ≤ℤ a
lt_false a b t = grind (arith, ints)

-- and what a comparison comes out as
pub lt_is_false : (a b : ℤ) → b ≤ℤ a → int_lt a b ≡ false
lt_is_false a b h = grind (arith, ints)

pub eq_false : (a b : ℤ) → int_eq a b ≡ false → a ≡ b → ⊥
eq_false a b e f = grind (arith, ints)

pub eq_true : (a b : ℤ) → int_eq a b ≡ true → a ≡ b
eq_true a b t = grind (arith, ints)

-- both of two tests that came out true together
pub both_of : (a b : Bool) → (a && b) ≡ true → (a ≡ true) × (b ≡ true)
both_of true b t = (refl, t)
both_of false b t = cc t
