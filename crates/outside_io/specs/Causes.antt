-- What a call does to the bytes of a source or a sink, where these are told, and to the count of its faults.
use Rattle.std.specs.Prelude.{◌≡◌, ◌≤◌, ◌+◌, ◌-◌, ◌^◌, ℕ, min, List, ◌++◌, length, OnErr, Result, MatchResult}
use Rattle.std.specs.declared.option.Option.{Option}
use Rattle.std.specs.Io.KnownBytes.{Appends, Consumes}

-- one more on a count that is kept in 64 bits and stays at the greatest number
abbrev pub next_count : ℕ → ℕ
next_count count = min (count + 1) (2 ^ 64 - 1)

-- the count of faults rose, or stood at the greatest number of 64 bits
abbrev pub Rose : ℕ → ℕ → Type 0
Rose before now = next_count before ≤ now

-- the count never falls, and a refusal comes only where it rose
pub record HasCause {T E : Type 0} (before now : ℕ) (result : Result T E) : Type 0 where
  pub later : before ≤ now
  pub failed : OnErr result (Rose before now)

-- known bytes grew by a prefix of the text
abbrev pub AppendsPrefix : Option (List ℕ) → Option (List ℕ) → List ℕ → Type 0
AppendsPrefix before now text =
    (front : List ℕ) × (back : List ℕ) × (text ≡ front ++ back) × Appends before now front

-- the whole text was appended, or at a refusal a prefix of it
abbrev pub Wrote : {T E : Type 0} → Option (List ℕ) → Option (List ℕ) → Result T E → List ℕ → Type 0
Wrote before now result text =
    MatchResult result (λ _. Appends before now text) (λ _. AppendsPrefix before now text)

-- known bytes lost n bytes from their front
abbrev pub Takes : Option (List ℕ) → Option (List ℕ) → ℕ → Type 0
Takes before now n = (bytes : List ℕ) × (length bytes ≡ n) × Consumes before now bytes

-- known bytes lost at most n bytes from their front
abbrev pub TakesAtMost : Option (List ℕ) → Option (List ℕ) → ℕ → Type 0
TakesAtMost before now n = (bytes : List ℕ) × (length bytes ≤ n) × Consumes before now bytes
