-- What a reader of records has left behind those that it read.
use Rattle.std.specs.Prelude.{◌≡◌, ℕ, List, [], ◌∷◌, Bool, false, true, Some, None}
use Rattle.std.specs.Borrow.{Bor}
use Rattle.std.specs.declared.option.Option.{Option}
use Rattle.csv.specs.Machine.{ends_at_end}
use Rattle.csv.specs.Reading.{Ready, default_config, source_of}
use Rattle.csv.specs.declared.parser.State.{State}
use Rattle.csv.specs.declared.reader.Reader.{Reader}
use Rattle.csv.specs.declared.reader.Trim.TheVariants as trim
use Rattle.scenario_read.specs.Records.{Record, records_after}

-- the bytes that a reader of a slice has left
abbrev pub bytes_left : Reader (Bor (List ℕ)) → Option (List ℕ)
bytes_left reader = source_of (λ s. Some s.now) reader

-- the records of the bytes that are left
abbrev pub records_in : State → Option (List ℕ) → List Record
records_in state None = []
records_in state (Some bytes) = records_after state bytes

-- the records that are left
abbrev pub left_of : Bool → Reader (Bor (List ℕ)) → List Record
left_of true reader = []
left_of false reader = records_in reader.state (bytes_left reader)

-- a reader of records as they come that stands between two of them
pub record IsBetween (reader : Reader (Bor (List ℕ))) : Type 0 where
  pub trim : reader.trim ≡ trim.None
  pub ready : Ready reader
  pub config : reader.config ≡ default_config
  pub flexible : reader.flexible ≡ true
  pub state : ends_at_end reader.state ≡ false
  pub bytes : List ℕ
  pub left : bytes_left reader ≡ Some bytes

abbrev pub IsBetweenUnlessOver : Bool → Reader (Bor (List ℕ)) → Type 0
IsBetweenUnlessOver true reader = Unit {0}
IsBetweenUnlessOver false reader = IsBetween reader

-- a read found the next record, or none was left
abbrev pub ReadsNext : Bool → List Record → Record → List Record → Type 0
ReadsNext true before fields after = before ≡ fields ∷ after
ReadsNext false before fields after = (before ≡ []) × (after ≡ [])
