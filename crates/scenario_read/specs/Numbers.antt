-- A number is an optional minus and 1 to 18 digits, and nothing else.
use Rattle.std.specs.Prelude.{ℕ, ◌+◌, ◌-◌, ◌*◌, Bool, nat_lt, nat_le, ◌&&◌, ◌==◌, if◌then◌else◌, List, [], ◌∷◌, length, Some, None, option_map, ℤ, pos, neg_ℤ}
use Rattle.std.specs.declared.option.Option.{Option}

abbrev pub is_digit : ℕ → Bool
is_digit b = nat_le 48 b && nat_le b 57

-- the number that digits spell behind the number n, or none where a byte is no digit
abbrev pub digits_after : ℕ → List ℕ → Option ℕ
digits_after n [] = Some n
digits_after n (b ∷ bs) = if is_digit b then digits_after (10 * n + (b - 48)) bs else None

abbrev pub natural_of : List ℕ → Option ℕ
natural_of bs = if nat_lt 0 (length bs) && nat_le (length bs) 18 then digits_after 0 bs else None

abbrev pub number_of : List ℕ → Option ℤ
number_of [] = None
number_of (b ∷ bs) = if b == 45 then option_map (λ n. neg_ℤ (pos n)) (natural_of bs) else option_map pos (natural_of (b ∷ bs))
