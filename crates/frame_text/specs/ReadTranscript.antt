-- When bytes are a transcript's text, and else the first cause why not.
use Rattle.std.specs.Prelude.{◌≡◌, ◌≢◌, ℕ, List, length, codes, Ok, Err}
use Rattle.crowd_data.specs.Scenario.{Parts}
use Rattle.scenario_read.specs.Part.{before}
use Rattle.scenario_read.specs.Reading.{IsAccepted, IsRefusedFor}
use Rattle.scenario_read.specs.Records.{Record, records_of}
use Rattle.scenario_read.specs.declared.cause.ScenarioFault.{ScenarioFault}
use Rattle.scenario_read.specs.declared.cause.ScenarioFault.TheVariants as scenario_fault_is
use Rattle.frame_text.specs.declared.cause.TranscriptCause.{TranscriptCause}
use Rattle.frame_text.specs.declared.cause.TranscriptCause.TheVariants.{Scenario, Shape, Spelling}
use Rattle.frame_text.specs.declared.cause.TranscriptFault.{TranscriptFault}
use Rattle.frame_text.specs.declared.cause.TranscriptFault.TheVariants.{NoMemory, At}
use Rattle.frame_text.specs.declared.shape.ShapeFault.{ShapeFault}
use Rattle.frame_text.specs.declared.shape.ShapeFault.TheVariants as shape_fault_is
use Rattle.frame_text.specs.Shape.{PostedFrame, frames_of}
use Rattle.frame_text.specs.Spelling.{lines_begun, lines_of, text_of}

-- the scenario's records: those before the first of kind `frame`
abbrev pub scenario_rows : List ℕ → List Record
scenario_rows bytes = before (codes "frame") (records_of bytes)

-- bytes are the text of a transcript, with these parts
pub record IsRead (bytes : List ℕ) (parts : Parts) (frames : List PostedFrame) : Type 0 where
  pub scenario : IsAccepted (scenario_rows bytes) parts
  pub shape : frames_of parts (length (scenario_rows bytes)) (records_of bytes) ≡ Ok frames
  pub spelling : bytes ≡ text_of parts frames

-- the first record that isn't allowed in its place has this number, or the records end there too soon
pub record HasShapeFault (bytes : List ℕ) (index : ℕ) : Type 0 where
  pub parts : Parts
  pub scenario : IsAccepted (scenario_rows bytes) parts
  pub shape : frames_of parts (length (scenario_rows bytes)) (records_of bytes) ≡ Err index

-- the bytes begin with so many whole lines of the text of what was read, and aren't that text
pub record HasSpellingFault (bytes : List ℕ) (index : ℕ) : Type 0 where
  pub parts : Parts
  pub frames : List PostedFrame
  pub scenario : IsAccepted (scenario_rows bytes) parts
  pub shape : frames_of parts (length (scenario_rows bytes)) (records_of bytes) ≡ Ok frames
  pub other : bytes ≢ text_of parts frames
  pub lines : index ≡ lines_begun (lines_of parts frames) bytes

-- the bytes have this cause first
abbrev pub IsFirstCause : List ℕ → ℕ → TranscriptCause → Type 0
IsFirstCause bytes index (Scenario cause) = IsRefusedFor (scenario_rows bytes) index cause
IsFirstCause bytes index Shape = HasShapeFault bytes index
IsFirstCause bytes index Spelling = HasSpellingFault bytes index

-- what a fault says of the bytes
abbrev pub HasTranscriptFault : List ℕ → TranscriptFault → Type 0
HasTranscriptFault bytes NoMemory = Unit {0}
HasTranscriptFault bytes (At index cause) = IsFirstCause bytes index cause

-- ---- faults handed on

abbrev pub scenario_fault : ScenarioFault → TranscriptFault
scenario_fault scenario_fault_is.NoMemory = NoMemory
scenario_fault (scenario_fault_is.At index cause) = At index (Scenario cause)

abbrev pub shape_fault : ShapeFault → TranscriptFault
shape_fault shape_fault_is.NoMemory = NoMemory
shape_fault (shape_fault_is.At index) = At index Shape
