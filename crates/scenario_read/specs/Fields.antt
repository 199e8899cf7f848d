-- The fields of a record, and its kind.
use Rattle.std.specs.Prelude.{ℕ, Bool, List, [], unwrap_or}
use Rattle.std.specs.Str.{bytes_eq}
use Rattle.csv.specs.Records.{field_at}
use Rattle.scenario_read.specs.Records.{Record}

-- the bytes of a field; of one that isn't there, none
abbrev pub field_text : Record → ℕ → List ℕ
field_text fields k = unwrap_or (field_at fields k) []

-- field 0 is the kind
abbrev pub is_kind : Record → List ℕ → Bool
is_kind fields kind = bytes_eq (field_text fields 0) kind
