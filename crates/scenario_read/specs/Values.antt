-- What a field stands for: it is no number, or its value is out of its limits, or it is that value.
use Rattle.std.specs.Prelude.{ℕ, ◌&&◌, if◌then◌else◌, int_le, Some, None, Result, Ok, Err, ℤ, pos, neg_ℤ, unsigned_abs}
use Rattle.std.specs.declared.option.Option.{Option}
use Rattle.fixed_vec.specs.declared.vector.V2.{V2}
use Rattle.scenario_read.specs.declared.cause.Cause.{Cause}
use Rattle.scenario_read.specs.declared.cause.Cause.TheVariants.{NotANumber, OutOfRange}
use Rattle.scenario_read.specs.Numbers.{number_of}
use Rattle.scenario_read.specs.Records.{Record}
use Rattle.scenario_read.specs.Fields.{field_text}

-- go on with what there is, or keep the cause
abbrev pub and_then : {A B : Type 0} → Result A Cause → (A → Result B Cause) → Result B Cause
and_then (Ok a) more = more a
and_then (Err cause) more = Err cause

abbrev pub within : ℕ → ℤ → ℤ → Option ℤ → Result ℤ Cause
within k low high None = Err (NotANumber k)
within k low high (Some z) = if int_le low z && int_le z high then Ok z else Err (OutOfRange k)

abbrev pub number_in : Record → ℕ → ℤ → ℤ → Result ℤ Cause
number_in fields k low high = within k low high (number_of (field_text fields k))

-- a number without a sign
unfoldable pub count_in : Record → ℕ → ℕ → ℕ → Result ℕ Cause
count_in fields k least most = and_then (number_in fields k (pos least) (pos most)) (λ z. Ok (unsigned_abs z))

-- two coordinates of at most this size
unfoldable pub vector_in : Record → ℕ → ℕ → ℕ → Result V2 Cause
vector_in fields k l most =
    and_then (number_in fields k (neg_ℤ (pos most)) (pos most)) (λ x.
    and_then (number_in fields l (neg_ℤ (pos most)) (pos most)) (λ y. Ok (record { x = x; y = y })))
