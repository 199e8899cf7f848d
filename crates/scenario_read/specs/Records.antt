-- The records of a text.
use Rattle.std.specs.Prelude.{ℕ, ◌+◌, List, length}
use Rattle.csv.specs.Reading.{default_config, records_from, strip_bom}
use Rattle.csv.specs.declared.parser.State.{State}
use Rattle.csv.specs.declared.parser.State.TheVariants as st

-- a record is a list of fields, a field a list of bytes
abbrev pub Record : Type 0
Record = List (List ℕ)

-- the records that `csv` reads from a state on
unfoldable pub records_after : State → List ℕ → List Record
records_after s bytes = records_from default_config (length bytes + 1) s bytes

-- the records that `csv` gives for bytes: commas, double quotes, no header row, any lengths, no trimming
abbrev pub records_of : List ℕ → List Record
records_of bytes = records_after st.StartRecord (strip_bom bytes)

-- so many records
abbrev pub Rows : Type 0
Rows = List Record
