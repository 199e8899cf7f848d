-- A number is 1 to 10 digits, within its limits.
use Rattle.std.specs.Prelude.{ℕ, ◌+◌, ◌-◌, ◌*◌, Bool, ◌&&◌, nat_le, if◌then◌else◌, [], ◌∷◌, length, Option, Some, None}
use Rattle.command_words.specs.Options.{Text}

abbrev pub is_digit : ℕ → Bool
is_digit b = nat_le 48 b && nat_le b 57

-- the number that digits spell behind the number n, or none where a byte is no digit
abbrev pub digits_after : ℕ → Text → Option ℕ
digits_after n [] = Some n
digits_after n (b ∷ bs) = if is_digit b then digits_after (10 * n + (b - 48)) bs else None

abbrev pub within : ℕ → ℕ → Option ℕ → Option ℕ
within low high None = None
within low high (Some n) = if nat_le low n && nat_le n high then Some n else None

abbrev pub number_in : ℕ → ℕ → Text → Option ℕ
number_in low high value = if nat_le 1 (length value) && nat_le (length value) 10 then within low high (digits_after 0 value) else None

-- the number of an option, or what stands for it where it wasn't given
abbrev pub number_or : Option ℕ → ℕ → ℕ → Option Text → Option ℕ
number_or default low high None = default
number_or default low high (Some value) = number_in low high value
