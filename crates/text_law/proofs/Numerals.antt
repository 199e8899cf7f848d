-- Printed numbers: they read back, and no byte of them calls for quotes.
use Rattle.std.proofs.Common.{◌≡◌, ◌∙◌, ◌<◌, ◌≤◌, ◌+◌, ◌-◌, ◌*◌, ◌^◌, ◌&&◌, ap, refl, ℕ, suc, true, false, List, [], ◌∷◌, length, Some, arith, rules, ℤ, pos, negsuc, unsigned_abs}
use Rattle.std.specs.Prelude.{◌==◌, nat_lt, nat_le}
use Rattle.std.specs.Int.{IsInRange}
use Rattle.std.specs.Str.{all_ascii_digits}
use Rattle.std.specs.Fmt.{decimal, signed_decimal}
use Rattle.std.specs.List.{list_any}
use Rattle.std.proofs.lemmas.Bool.Decides.{nat_tests}
use Rattle.std.proofs.lemmas.Fmt.{decimal_nonempty, digits_decimal, digits_value-decimal, length-decimal-le}
use Rattle.std.proofs.lemmas.Str.Parse.{IsNumeralModel, numerals_by_fold, tells_all_ascii_digits}
use Rattle.csv.specs.Quoting.{needs_byte}
use Rattle.csv.specs.Writing.{default_writer}
use Rattle.scenario_read.specs.Numbers.{digits_after, is_digit, natural_of, number_of}

-- a field that calls for no quotes
abbrev pub IsPlain : List ℕ → Type 0
IsPlain field = list_any (needs_byte default_writer) field ≡ false

-- the number that digits spell behind the number n
abbrev value_after : ℕ → List ℕ → ℕ
value_after n [] = n
value_after n (c ∷ cs) = value_after (10 * n + (c - 48)) cs

-- that is std's value of a numeral
own : IsNumeralModel (λ ds. all_ascii_digits ds ≡ true) (value_after 0)
own = numerals_by_fold _ (search rules) value_after (search rules)

-- what a digit is and is not
digit_is : (d : ℕ) → IsInRange 48 57 d → is_digit d ≡ true
digit_is d h = grind (arith, nat_tests)

digit_plain : (d : ℕ) → IsInRange 48 57 d → needs_byte default_writer d ≡ false
digit_plain d h = grind (arith, nat_tests)

no_minus : (d : ℕ) → IsInRange 48 57 d → (d == 45) ≡ false
no_minus d h = grind (arith, nat_tests)

-- ---- texts of digits

digits_read : (n : ℕ) (ds : List ℕ) → all_ascii_digits ds ≡ true → digits_after n ds ≡ Some (value_after n ds)
digits_read n [] h = refl
digits_read n (d ∷ ds) h = let (here, rest) = tells_all_ascii_digits.parts d ds h in rw (digit_is d here) (digits_read (10 * n + (d - 48)) ds rest)

digits_plain : (ds : List ℕ) → all_ascii_digits ds ≡ true → IsPlain ds
digits_plain [] h = refl
digits_plain (d ∷ ds) h = let (here, rest) = tells_all_ascii_digits.parts d ds h in rw (digit_plain d here) (digits_plain ds rest)

short_enough : (n : ℕ) → 0 < n → n ≤ 18 → (nat_lt 0 n && nat_le n 18) ≡ true
short_enough n some short = grind (arith, nat_tests)

natural_read : (ds : List ℕ) → all_ascii_digits ds ≡ true → 0 < length ds → length ds ≤ 18 → natural_of ds ≡ Some (value_after 0 ds)
natural_read ds h some short = rw (short_enough (length ds) some short) (digits_read 0 ds h)

number_read : (ds : List ℕ) → all_ascii_digits ds ≡ true → 0 < length ds → length ds ≤ 18 → number_of ds ≡ Some (pos (value_after 0 ds))
number_read [] h some short = absurd (omega arith)
number_read (d ∷ ds) h some short =
    let (here, rest) = tells_all_ascii_digits.parts d ds h in rw (no_minus d here, natural_read (d ∷ ds) h some short) refl

-- ---- unsigned numbers

module _ (n : ℕ) (small : n < 10 ^ 18) where
  fits : n < 2 ^ 64
  fits = omega arith

  nat_read : natural_of (decimal n) ≡ Some n
  nat_read =
      natural_read (decimal n) (digits_decimal own n fits) (decimal_nonempty n fits) (length-decimal-le 18 n (omega arith) small fits)
      ∙ ap Some (digits_value-decimal own n fits)

  pub decimal_read : number_of (decimal n) ≡ Some (pos n)
  decimal_read =
      number_read (decimal n) (digits_decimal own n fits) (decimal_nonempty n fits) (length-decimal-le 18 n (omega arith) small fits)
      ∙ ap (λ m. Some (pos m)) (digits_value-decimal own n fits)

  pub decimal_plain : IsPlain (decimal n)
  decimal_plain = digits_plain (decimal n) (digits_decimal own n fits)

-- ---- signed numbers

pub signed_read : (z : ℤ) → unsigned_abs z < 10 ^ 18 → number_of (signed_decimal z) ≡ Some z
signed_read (pos n) small = decimal_read n small
signed_read (negsuc n) small = rw (nat_read (suc n) (omega arith)) refl

pub signed_plain : (z : ℤ) → unsigned_abs z < 10 ^ 18 → IsPlain (signed_decimal z)
signed_plain (pos n) small = decimal_plain n small
signed_plain (negsuc n) small = decimal_plain (suc n) (omega arith)
