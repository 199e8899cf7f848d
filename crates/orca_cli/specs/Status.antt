-- What each status says of the words, of the bytes, and of what was read and written.
use Rattle.std.specs.Prelude.{◌≡◌, ℕ, ◌+◌, ◌<◌, ◌≤◌, Bool, true, false, List, [], ◌++◌, length, IfSome, Some, None, codes, decimal}
use Rattle.std.specs.declared.option.Option.{Option}
use Rattle.std.specs.Io.KnownBytes.{Appends, IsAtEnd, Keeps}
use Rattle.outside_io.specs.Causes.{AppendsPrefix, Rose, Takes, TakesAtMost}
use Rattle.command_words.specs.declared.commands.Command.{Command}
use Rattle.scenario_read.specs.declared.cause.Cause.{Cause}
use Rattle.scenario_read.specs.declared.cause.Cause.TheVariants.{NoHeader, UnknownKind, FieldCount, NotANumber, OutOfRange, StepsTwice, RingTwice, TooMany, NoSteps, NoSuchAgent, PostOrder, GoalTwice, AgentOnSegment}
use Rattle.orca_cli.specs.Output.{IsCutOutput, IsOutput, IsRefused, IsRefusedBy, RunsAreSafe, reads, waits}
use Rattle.orca_cli.specs.declared.status.Status.{Status}
use Rattle.orca_cli.specs.declared.status.Status.TheVariants.{Done, NoMemory, NoMemoryInRun, Usage, Refused, ReadFault, WriteFault, TooLong}

-- the most bytes of an input
abbrev pub input_limit : ℕ
input_limit = 16777216

abbrev pub code_of : Status → ℕ
code_of Done = 0
code_of NoMemory = 1
code_of NoMemoryInRun = 1
code_of Usage = 2
code_of (Refused index cause) = 3
code_of ReadFault = 4
code_of WriteFault = 5
code_of TooLong = 6

-- what a source and a sink tell before a call, or behind it: the bytes left and held, and the faults
pub record Channels : Type 0 where
  pub left : Option (List ℕ)
  pub reads : ℕ
  pub held : Option (List ℕ)
  pub writes : ℕ

-- the source is as it was, and so is its count of faults
abbrev pub IsUntouched : Channels → Channels → Type 0
IsUntouched old new = Keeps old.left new.left × (new.reads ≡ old.reads)

-- nothing was written, and no fault was counted in writing
abbrev pub IsUnwritten : Channels → Channels → Type 0
IsUnwritten old new = Keeps old.held new.held × (new.writes ≡ old.writes)

-- the whole output was written
abbrev pub WroteOutput : Command → Channels → Channels → List ℕ → Type 0
WroteOutput command old new bytes = (text : List ℕ) × IsOutput command bytes text × Appends old.held new.held text

-- a prefix of the output was written
abbrev pub WrotePart : Command → Channels → Channels → List ℕ → Type 0
WrotePart command old new bytes = (text : List ℕ) × IsCutOutput command bytes text × AppendsPrefix old.held new.held text

-- something holds of the bytes read, where a command reads and the source tells them, or else of none
abbrev pub OnBytes : Bool → Option (List ℕ) → (List ℕ → Type 0) → Type 0
OnBytes true left P = IfSome left P
OnBytes false left P = P []

-- a command that reads has read its whole input, within the limit and without a cause; another one left the
-- source as it was
abbrev pub ReadInput : Bool → Channels → Channels → (List ℕ → Type 0) → Type 0
ReadInput true old new P = IfSome old.left (λ bytes. (length bytes ≤ input_limit) × (¬ IsRefused bytes) × P bytes) × IsAtEnd new.left
ReadInput false old new P = P [] × IsUntouched old new

-- a command that reads is asked for
abbrev pub AsksToRead : Option Command → Type 0
AsksToRead asked = (command : Command) × (asked ≡ Some command) × (reads command ≡ true)

-- a command that waits for others is asked for
abbrev pub AsksToWait : Option Command → Type 0
AsksToWait asked = (command : Command) × (asked ≡ Some command) × (waits command ≡ true)

-- the causes of each status where this command is asked for or none, and what it leaves
abbrev pub CausesHold : Option Command → Channels → Channels → Status → Type 0
CausesHold asked old new Usage = (asked ≡ None) × IsUntouched old new × IsUnwritten old new
CausesHold asked old new NoMemory =
    TakesAtMost old.left new.left input_limit × IsUnwritten old new
    × ((command : Command) → asked ≡ Some command → reads command ≡ false → IsUntouched old new)
CausesHold asked old new NoMemoryInRun =
    (command : Command) × (asked ≡ Some command) × (waits command ≡ true)
    × ReadInput (reads command) old new (λ bytes. WrotePart command old new bytes × RunsAreSafe command bytes)
CausesHold asked old new ReadFault =
    AsksToRead asked × Rose old.reads new.reads × TakesAtMost old.left new.left input_limit × IsUnwritten old new
CausesHold asked old new TooLong =
    AsksToRead asked × IfSome old.left (λ bytes. input_limit < length bytes) × Takes old.left new.left (input_limit + 1) × IsUnwritten old new
CausesHold asked old new (Refused index cause) =
    AsksToRead asked × IfSome old.left (λ bytes. (length bytes ≤ input_limit) × IsRefusedBy bytes index cause) × IsAtEnd new.left × IsUnwritten old new
CausesHold asked old new WriteFault =
    (command : Command) × (asked ≡ Some command)
    × ReadInput (reads command) old new (λ bytes. WrotePart command old new bytes × RunsAreSafe command bytes) × Rose old.writes new.writes
CausesHold asked old new Done =
    (command : Command) × (asked ≡ Some command)
    × ReadInput (reads command) old new (λ bytes. WroteOutput command old new bytes × RunsAreSafe command bytes)

-- a cause's name, and where it holds
unfoldable pub cause_text : Cause → List ℕ
cause_text NoHeader = codes "NoHeader"
cause_text UnknownKind = codes "UnknownKind"
cause_text FieldCount = codes "FieldCount"
cause_text (NotANumber field) = codes "NotANumber field " ++ decimal field
cause_text (OutOfRange field) = codes "OutOfRange field " ++ decimal field
cause_text StepsTwice = codes "StepsTwice"
cause_text RingTwice = codes "RingTwice"
cause_text TooMany = codes "TooMany"
cause_text NoSteps = codes "NoSteps"
cause_text NoSuchAgent = codes "NoSuchAgent"
cause_text PostOrder = codes "PostOrder"
cause_text GoalTwice = codes "GoalTwice"
cause_text (AgentOnSegment agent segment) = codes "AgentOnSegment agent " ++ decimal agent ++ codes " segment " ++ decimal segment

-- the line of each status on the error output
unfoldable pub message_of : Status → List ℕ
message_of Done = []
message_of NoMemory = codes "no memory\n"
message_of NoMemoryInRun = codes "no memory\n"
message_of Usage = codes "usage: crowd run|check|sample|soak|live\n"
message_of (Refused index cause) = codes "refused: record " ++ decimal index ++ codes ": " ++ cause_text cause ++ codes "\n"
message_of ReadFault = codes "read fault\n"
message_of WriteFault = codes "write fault\n"
message_of TooLong = codes "input too long\n"

-- the error output gained the line of the status, or a prefix of it where its count of faults rose
pub record Reports (old new : Option (List ℕ)) (before now : ℕ) (status : Status) : Type 0 where
  pub line : ¬ Rose before now → Appends old new (message_of status)
  pub part : AppendsPrefix old new (message_of status)
  pub later : before ≤ now
