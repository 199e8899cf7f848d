-- What the parts of a command answer: the scenario that it is about, and the status of its writing.
use Rattle.std.specs.Prelude.{◌≡◌, ℕ, ◌+◌, ◌<◌, ◌≤◌, Bool, true, false, List, length, IfSome, Result}
use Rattle.std.specs.declared.option.Option.{Option}
use Rattle.std.specs.Io.KnownBytes.{Appends, IsAtEnd, Keeps}
use Rattle.crowd_data.specs.Scenario.{Parts}
use Rattle.outside_io.specs.Causes.{AppendsPrefix, Rose, Takes, TakesAtMost, Wrote}
use Rattle.outside_io.specs.Sinks.{SinkState}
use Rattle.command_words.specs.declared.commands.Command.{Command}
use Rattle.orca_cli.specs.Output.{IsCutTextFor, IsFor, IsRefusedBy, IsTextFor}
use Rattle.orca_cli.specs.Status.{input_limit}
use Rattle.orca_cli.specs.declared.status.Status.{Status}
use Rattle.orca_cli.specs.declared.status.Status.TheVariants.{Done, NoMemory, NoMemoryInRun, Usage, Refused, ReadFault, WriteFault, TooLong}

-- what a source tells: the bytes left, and the faults
pub record Input : Type 0 where
  pub left : Option (List ℕ)
  pub faults : ℕ

-- why no scenario was read
abbrev pub IsInputFault : Input → Input → Status → Type 0
IsInputFault old new ReadFault = Rose old.faults new.faults × TakesAtMost old.left new.left input_limit
IsInputFault old new TooLong = IfSome old.left (λ bytes. input_limit < length bytes) × Takes old.left new.left (input_limit + 1)
IsInputFault old new NoMemory = TakesAtMost old.left new.left input_limit
IsInputFault old new (Refused index cause) =
    IfSome old.left (λ bytes. (length bytes ≤ input_limit) × IsRefusedBy bytes index cause) × IsAtEnd new.left
IsInputFault old new NoMemoryInRun = ⊥
IsInputFault old new Usage = ⊥
IsInputFault old new WriteFault = ⊥
IsInputFault old new Done = ⊥

-- the source is as it was
abbrev pub IsSame : Input → Input → Type 0
IsSame old new = Keeps old.left new.left × (new.faults ≡ old.faults)

-- the scenario that a command is about was had
abbrev pub HasScenario : Bool → Command → Input → Input → Parts → Type 0
HasScenario true command old new scenario =
    IfSome old.left (λ bytes. (length bytes ≤ input_limit) × IsFor command bytes scenario) × IsAtEnd new.left × TakesAtMost old.left new.left input_limit
HasScenario false command old new scenario = ((bytes : List ℕ) → IsFor command bytes scenario) × IsSame old new

-- or why not
abbrev pub HasNone : Bool → Input → Input → Status → Type 0
HasNone true old new status = IsInputFault old new status
HasNone false old new status = (status ≡ NoMemory) × IsSame old new

-- what was written where each text of some kind would do
abbrev pub WroteOne : (List ℕ → Type 0) → SinkState → SinkState → Status → Type 0
WroteOne IsText old new Done = (text : List ℕ) × IsText text × Appends old.held new.held text
WroteOne IsText old new WriteFault = (text : List ℕ) × IsText text × AppendsPrefix old.held new.held text × Rose old.faults new.faults
WroteOne IsText old new NoMemory = Keeps old.held new.held × (new.faults ≡ old.faults)
WroteOne IsText old new NoMemoryInRun = ⊥
WroteOne IsText old new Usage = ⊥
WroteOne IsText old new ReadFault = ⊥
WroteOne IsText old new TooLong = ⊥
WroteOne IsText old new (Refused index cause) = ⊥

-- what was written of a run with controllers: its whole text, or a prefix of one so far
abbrev pub WroteLiveFor : Command → Parts → SinkState → SinkState → Status → Type 0
WroteLiveFor command scenario old new Done = (text : List ℕ) × IsTextFor command scenario text × Appends old.held new.held text
WroteLiveFor command scenario old new WriteFault = (text : List ℕ) × IsCutTextFor command scenario text × AppendsPrefix old.held new.held text × Rose old.faults new.faults
WroteLiveFor command scenario old new NoMemoryInRun = (text : List ℕ) × IsCutTextFor command scenario text × AppendsPrefix old.held new.held text
WroteLiveFor command scenario old new NoMemory = ⊥
WroteLiveFor command scenario old new Usage = ⊥
WroteLiveFor command scenario old new ReadFault = ⊥
WroteLiveFor command scenario old new TooLong = ⊥
WroteLiveFor command scenario old new (Refused index cause) = ⊥

-- a text of some kind was written, or a prefix of it
abbrev pub WroteSome : {T E : Type 0} → (List ℕ → Type 0) → Option (List ℕ) → Option (List ℕ) → Result T E → Type 0
WroteSome IsText old new result = (text : List ℕ) × IsText text × Wrote old new result text
