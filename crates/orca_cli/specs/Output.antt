-- What each command reads, and what it writes: one line a command. The number of workers is no part of it.
use Rattle.std.specs.Prelude.{◌≡◌, ℕ, Bool, true, false, if◌then◌else◌, List, Option, Some, None, option_and_then}
use Rattle.crowd_data.specs.Run.{scripts_of}
use Rattle.crowd_data.specs.Scenario.{Parts}
use Rattle.command_words.specs.Commands.{command_of}
use Rattle.command_words.specs.declared.commands.Command.{Command}
use Rattle.command_words.specs.declared.commands.Command.TheVariants.{Run, Check, Sample, Soak, Live}
use Rattle.frame_text.specs.Transcript.{IsTranscript, scenario_text}
use Rattle.live_session.specs.LiveText.{IsLiveText, IsLiveTextSoFar}
use Rattle.run_law.specs.Laws.{EveryRunIsSafe}
use Rattle.run_summary.specs.Summary.{IsSummary}
use Rattle.scenario_read.specs.declared.cause.Cause.{Cause}
use Rattle.scenario_read.specs.Generator.{generated}
use Rattle.scenario_read.specs.Reading.{IsAccepted, IsRefusedFor}
use Rattle.scenario_read.specs.Records.{records_of}
use Rattle.orca_cli.specs.Accepted.{accepted_line}

-- the records of the bytes are accepted as this scenario: no cause holds
abbrev pub IsScenarioOf : List ℕ → Parts → Type 0
IsScenarioOf bytes scenario = IsAccepted (records_of bytes) scenario

-- the first cause why the bytes stand for no scenario, with the number of its record
abbrev pub IsRefusedBy : List ℕ → ℕ → Cause → Type 0
IsRefusedBy bytes index cause = IsRefusedFor (records_of bytes) index cause

-- some cause holds
abbrev pub IsRefused : List ℕ → Type 0
IsRefused bytes = (index : ℕ) × (cause : Cause) × IsRefusedBy bytes index cause

-- ---- the commands

-- whether it reads a scenario
abbrev pub reads : Command → Bool
reads (Run workers) = true
reads Check = true
reads (Sample number agents steps) = false
reads (Soak number agents steps workers) = false
reads (Live workers) = true

-- whether it waits for others: it runs controllers on threads of their own
abbrev pub waits : Command → Bool
waits (Run workers) = false
waits Check = false
waits (Sample number agents steps) = false
waits (Soak number agents steps workers) = false
waits (Live workers) = true

-- the command that the words ask for, of those that wait for nobody
abbrev pub offline_command_of : List (List ℕ) → Option Command
offline_command_of words = option_and_then (λ command. if waits command then None else Some command) (command_of words)

-- the scenario that it is about: the one that the bytes read stand for, or a generated one
abbrev pub IsFor : Command → List ℕ → Parts → Type 0
IsFor (Run workers) bytes scenario = IsScenarioOf bytes scenario
IsFor Check bytes scenario = IsScenarioOf bytes scenario
IsFor (Sample number agents steps) bytes scenario = scenario ≡ generated number agents steps
IsFor (Soak number agents steps workers) bytes scenario = scenario ≡ generated number agents steps
IsFor (Live workers) bytes scenario = IsScenarioOf bytes scenario

-- what it writes of the scenario: the transcript of its run with its scripted posts, how large it is, its
-- text, the summary of that run, or the transcript of a run with controllers
abbrev pub IsTextFor : Command → Parts → List ℕ → Type 0
IsTextFor (Run workers) scenario text = IsTranscript scenario (scripts_of scenario) text
IsTextFor Check scenario text = text ≡ accepted_line scenario
IsTextFor (Sample number agents steps) scenario text = text ≡ scenario_text scenario
IsTextFor (Soak number agents steps workers) scenario text = IsSummary scenario text
IsTextFor (Live workers) scenario text = IsLiveText scenario text

-- what it writes a prefix of where its writing is cut short: the same, or the transcript so far of a run with controllers
abbrev pub IsCutTextFor : Command → Parts → List ℕ → Type 0
IsCutTextFor (Run workers) scenario text = IsTextFor (Run workers) scenario text
IsCutTextFor Check scenario text = IsTextFor Check scenario text
IsCutTextFor (Sample number agents steps) scenario text = IsTextFor (Sample number agents steps) scenario text
IsCutTextFor (Soak number agents steps workers) scenario text = IsTextFor (Soak number agents steps workers) scenario text
IsCutTextFor (Live workers) scenario text = IsLiveTextSoFar scenario text

-- the whole output of a command, where these bytes were read
abbrev pub IsOutput : Command → List ℕ → List ℕ → Type 0
IsOutput command bytes text = (scenario : Parts) × IsFor command bytes scenario × IsTextFor command scenario text

-- an output of which a prefix is written where the writing is cut short
abbrev pub IsCutOutput : Command → List ℕ → List ℕ → Type 0
IsCutOutput command bytes text = (scenario : Parts) × IsFor command bytes scenario × IsCutTextFor command scenario text

-- every run of its scenario is safe, whatever is posted
abbrev pub RunsAreSafe : Command → List ℕ → Type 0
RunsAreSafe command bytes = (scenario : Parts) → IsFor command bytes scenario → EveryRunIsSafe scenario
