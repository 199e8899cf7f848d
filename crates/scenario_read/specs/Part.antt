-- The records of a text before the first of a kind.
use Rattle.std.specs.Prelude.{ℕ, Bool, false, if◌then◌else◌, List, [], ◌∷◌, Some, None}
use Rattle.std.specs.declared.option.Option.{Option}
use Rattle.scenario_read.specs.Fields.{is_kind}
use Rattle.scenario_read.specs.Records.{Record}

-- the records before the first of this kind, or all where there is none
abbrev pub before : List ℕ → List Record → List Record
before kind [] = []
before kind (row ∷ rest) = if is_kind row kind then [] else row ∷ before kind rest

-- the same where there may be no kind that ends the part
abbrev pub part_of : Option (List ℕ) → List Record → List Record
part_of None rows = rows
part_of (Some kind) rows = before kind rows

-- a record ends the part
abbrev pub ends_part : Option (List ℕ) → Record → Bool
ends_part None row = false
ends_part (Some kind) row = is_kind row kind
