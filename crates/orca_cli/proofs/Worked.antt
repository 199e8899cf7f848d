-- What the parts of a command answer makes the causes of its status.
use Rattle.std.proofs.Common.{◌≡◌, ◌∙◌, ◌≤◌, ℕ, Bool, true, false, List, [], length, Option, Some, None, IfSome, refl, sym, subst, arith, true≢false}
use Rattle.std.specs.Io.KnownBytes.{Appends, Keeps}
use Rattle.std.proofs.KnownBytes.{Consumes-kept, Consumes-nil}
use Rattle.outside_io.specs.Causes.{AppendsPrefix, TakesAtMost}
use Rattle.command_words.specs.declared.commands.Command.{Command}
use Rattle.command_words.specs.declared.commands.Command.TheVariants.{Run, Check, Sample, Soak, Live}
use Rattle.crowd_data.specs.Scenario.{Parts}
use Rattle.run_law.specs.Laws.{EveryRunIsSafe}
use Rattle.scenario_read.specs.Records.{records_of}
use Rattle.scenario_read.proofs.OneOutcome.{accepted_or_refused}
use Rattle.orca_cli.specs.Output.{IsCutTextFor, IsFor, IsRefused, IsScenarioOf, IsTextFor, RunsAreSafe, reads, waits}
use Rattle.orca_cli.specs.Status.{Channels, CausesHold, IsUntouched, ReadInput, WroteOutput, WrotePart, input_limit}
use Rattle.orca_cli.specs.Working.{HasScenario, Input, WroteLiveFor, WroteOne}
use Rattle.orca_cli.specs.declared.status.Status.{Status}
use Rattle.orca_cli.specs.declared.status.Status.TheVariants.{Done, NoMemory, NoMemoryInRun, Usage, Refused, ReadFault, WriteFault, TooLong}

-- ---- bytes that stand for a scenario have no cause

not_refused : (bytes : List ℕ) (scenario : Parts) → IsScenarioOf bytes scenario → ¬ IsRefused bytes
not_refused bytes scenario ok (index, cause, told) = accepted_or_refused (records_of bytes) scenario index cause ok told

-- ---- a command is about one scenario

one_scenario : (command : Command) (bytes : List ℕ) (scenario other : Parts) → IsFor command bytes scenario → IsFor command bytes other → scenario ≡ other
one_scenario (Run workers) bytes scenario other one two = cc (one.read, two.read)
one_scenario Check bytes scenario other one two = cc (one.read, two.read)
one_scenario (Sample number agents steps) bytes scenario other one two = one ∙ sym two
one_scenario (Soak number agents steps workers) bytes scenario other one two = one ∙ sym two
one_scenario (Live workers) bytes scenario other one two = cc (one.read, two.read)

-- one that reads, that of the bytes
read_scenario : (command : Command) (bytes : List ℕ) (scenario : Parts) → reads command ≡ true → IsFor command bytes scenario → ¬ IsRefused bytes
read_scenario (Run workers) bytes scenario e is = not_refused bytes scenario is
read_scenario Check bytes scenario e is = not_refused bytes scenario is
read_scenario (Sample number agents steps) bytes scenario e is = absurd (true≢false (sym e))
read_scenario (Soak number agents steps workers) bytes scenario e is = absurd (true≢false (sym e))
read_scenario (Live workers) bytes scenario e is = not_refused bytes scenario is

safe_for : (command : Command) (bytes : List ℕ) (scenario : Parts) → IsFor command bytes scenario → EveryRunIsSafe scenario → RunsAreSafe command bytes
safe_for command bytes scenario is law other also = subst EveryRunIsSafe (one_scenario command bytes scenario other is also) law

-- what a command that waits for nobody writes a prefix of, where its writing is cut short, is what it would write
text_cut : (command : Command) (scenario : Parts) (text : List ℕ) → waits command ≡ false → IsTextFor command scenario text → IsCutTextFor command scenario text
text_cut (Run workers) scenario text e is = is
text_cut Check scenario text e is = is
text_cut (Sample number agents steps) scenario text e is = is
text_cut (Soak number agents steps workers) scenario text e is = is
text_cut (Live workers) scenario text e is = absurd (true≢false e)

-- ---- the source is as it was

kept_most : (old new : Option (List ℕ)) → Keeps old new → TakesAtMost old new input_limit
kept_most old new keeps = ([], omega arith, Consumes-kept old old new [] (Consumes-nil old) keeps)

module _ (asked : Option Command) (old new : Channels) where
  abbrev before : Input
  before = record { left = old.left; faults = old.reads }

  abbrev after : Input
  after = record { left = new.left; faults = new.reads }

  module _ (command : Command) (asks : asked ≡ Some command) where
    abbrev Never : Type 0
    Never = (c : Command) → asked ≡ Some c → reads c ≡ false → IsUntouched old new

    reading_alone : reads command ≡ true → Never
    reading_alone e c also not = let same : command ≡ c = cc in absurd (true≢false (sym e ∙ subst (λ x. reads x ≡ false) (sym same) not))

    -- ---- the scenario was had, and something was written of it

    module _ (scenario : Parts) (law : EveryRunIsSafe scenario) where
      input_of : (P : List ℕ → Type 0) → ((bytes : List ℕ) → IsFor command bytes scenario → P bytes) → (b : Bool) → reads command ≡ b → HasScenario b command before after scenario
          → ReadInput b old new P
      input_of P more true e (inside, end, most) =
          (if_more old.left (λ bytes (short, is). (short, read_scenario command bytes scenario e is, more bytes is)) inside, end)
        where
          if_more : (o : Option (List ℕ)) → ((bytes : List ℕ) → (length bytes ≤ input_limit) × IsFor command bytes scenario → (length bytes ≤ input_limit) × (¬ IsRefused bytes) × P bytes)
              → IfSome o (λ bytes. (length bytes ≤ input_limit) × IsFor command bytes scenario) → IfSome o (λ bytes. (length bytes ≤ input_limit) × (¬ IsRefused bytes) × P bytes)
          if_more (Some bytes) f p = f bytes p
          if_more None f p = p
      input_of P more false e (all, same) = (more [] (all []), same)

      input : (P : List ℕ → Type 0) → ((bytes : List ℕ) → IsFor command bytes scenario → P bytes) → HasScenario (reads command) command before after scenario → ReadInput (reads command) old new P
      input P more had = input_of P more (reads command) refl had

      -- memory ran out before anything was written
      none_left : (b : Bool) → reads command ≡ b → HasScenario b command before after scenario → TakesAtMost old.left new.left input_limit × Never
      none_left true e (inside, end, most) = (most, reading_alone e)
      none_left false e (all, same) = (kept_most old.left new.left same.0, λ c also not. same)

      done : (text : List ℕ) → HasScenario (reads command) command before after scenario → IsTextFor command scenario text → Appends old.held new.held text → CausesHold asked old new Done
      done text had is_text wrote = (
        command,
        asks,
        input (λ bytes. WroteOutput command old new bytes × RunsAreSafe command bytes) (λ bytes is. ((text, (scenario, is, is_text), wrote), safe_for command bytes scenario is law)) had,
      )

      -- a prefix was written
      cut : (text : List ℕ) → HasScenario (reads command) command before after scenario → IsCutTextFor command scenario text → AppendsPrefix old.held new.held text
          → ReadInput (reads command) old new (λ bytes. WrotePart command old new bytes × RunsAreSafe command bytes)
      cut text had is_text wrote =
          input (λ bytes. WrotePart command old new bytes × RunsAreSafe command bytes) (λ bytes is. ((text, (scenario, is, is_text), wrote), safe_for command bytes scenario is law)) had

      pub worked : (s : Status) → waits command ≡ false → HasScenario (reads command) command before after scenario
          → WroteOne (IsTextFor command scenario) (record { held = old.held; faults = old.writes }) (record { held = new.held; faults = new.writes }) s → CausesHold asked old new s
      worked Done nobody had (text, is_text, wrote) = done text had is_text wrote
      worked WriteFault nobody had (text, is_text, wrote, rose) = (command, asks, cut text had (text_cut command scenario text nobody is_text) wrote, rose)
      worked NoMemory nobody had kept = let (most, never) = none_left (reads command) refl had in (most, kept, never)
      worked NoMemoryInRun nobody had none = absurd none
      worked Usage nobody had none = absurd none
      worked ReadFault nobody had none = absurd none
      worked TooLong nobody had none = absurd none
      worked (Refused index cause) nobody had none = absurd none

      -- a run with controllers
      pub worked_live : (s : Status) → waits command ≡ true → HasScenario (reads command) command before after scenario
          → WroteLiveFor command scenario (record { held = old.held; faults = old.writes }) (record { held = new.held; faults = new.writes }) s → CausesHold asked old new s
      worked_live Done waiting had (text, is_text, wrote) = done text had is_text wrote
      worked_live WriteFault waiting had (text, is_text, wrote, rose) = (command, asks, cut text had is_text wrote, rose)
      worked_live NoMemoryInRun waiting had (text, is_text, wrote) = (command, asks, waiting, cut text had is_text wrote)
      worked_live NoMemory waiting had none = absurd none
      worked_live Usage waiting had none = absurd none
      worked_live ReadFault waiting had none = absurd none
      worked_live TooLong waiting had none = absurd none
      worked_live (Refused index cause) waiting had none = absurd none
