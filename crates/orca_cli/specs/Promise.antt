-- What the top calls promise.
use Rattle.std.specs.Prelude.{◌≡◌, ◌≢◌, ◌⊎◌, ℕ, ◌<◌, true, false, List, length, IfSome, Some, None}
use Rattle.std.specs.declared.option.Option.{Option}
use Rattle.std.specs.Io.KnownBytes.{IsAtEnd}
use Rattle.outside_io.specs.Causes.{Rose}
use Rattle.command_words.specs.declared.commands.Command.{Command}
use Rattle.orca_cli.specs.Output.{IsRefused, RunsAreSafe, reads}
use Rattle.orca_cli.specs.Status.{AsksToRead, AsksToWait, Channels, CausesHold, IsUntouched, IsUnwritten, OnBytes, Reports, WroteOutput, WrotePart, code_of, input_limit}
use Rattle.orca_cli.specs.declared.status.Status.{Status}

-- what the error output tells before and behind a call: the bytes held, and the faults
pub record ErrorOutput : Type 0 where
  pub held : Option (List ℕ)
  pub faults : ℕ

-- the promise of a call that answered this number, where its words ask for this command or for none
pub record KeepsPromise (asked : Option Command) (old new : Channels) (err later : ErrorOutput) (answer : ℕ) : Type 0 where
  -- the answer is the code of a status whose causes hold, and the error output has its line
  pub status : (s : Status) × (answer ≡ code_of s) × CausesHold asked old new s × Reports err.held later.held err.faults later.faults s
  -- the transcript promise: with status 0 exactly the defined output was written, with status 5 a prefix of it
  pub transcript : answer ≡ 0 → (command : Command) → asked ≡ Some command → OnBytes (reads command) old.left (WroteOutput command old new)
  pub cut_short : answer ≡ 5 → (command : Command) → asked ≡ Some command → OnBytes (reads command) old.left (WrotePart command old new)
  -- the safety laws: every run of the command's scenario is safe, whatever is posted
  pub safe : (answer ≡ 0) ⊎ (answer ≡ 5) → (command : Command) → asked ≡ Some command → OnBytes (reads command) old.left (RunsAreSafe command)
  -- each other status leaves the output as it was; but where memory runs out while controllers run, a prefix of
  -- the transcript so far may have been written
  pub unwritten : answer ≢ 0 → answer ≢ 5 → (answer ≡ 1 → ¬ AsksToWait asked) → IsUnwritten old new
  pub cut_in_run : answer ≡ 1 → IsUnwritten old new
      ⊎ ((command : Command) × (asked ≡ Some command) × OnBytes (reads command) old.left (λ bytes. WrotePart command old new bytes × RunsAreSafe command bytes))
  -- status 2 comes exactly where the words are no command's, unless memory ran out; then nothing was read
  pub usage : answer ≡ 2 → asked ≡ None
  pub no_command : asked ≡ None → (answer ≡ 1) ⊎ (answer ≡ 2)
  pub untouched : answer ≡ 2 → IsUntouched old new
  -- commands that don't read a scenario never read the source
  pub unread : (command : Command) → asked ≡ Some command → reads command ≡ false → IsUntouched old new
  -- statuses 4 and 5 come only where a count of faults rose
  pub read_fault : answer ≡ 4 → Rose old.reads new.reads
  pub write_fault : answer ≡ 5 → Rose old.writes new.writes
  -- of a command that reads, status 6 comes exactly where more bytes came than an input may have, and 3
  -- exactly where they have a cause why they stand for no scenario; each yields to a status that is tried
  -- before it, and to lack of memory
  pub too_long : answer ≡ 6 → IfSome old.left (λ bytes. input_limit < length bytes)
  pub not_longer : AsksToRead asked → IfSome old.left (λ bytes. input_limit < length bytes → (answer ≡ 1) ⊎ ((answer ≡ 4) ⊎ (answer ≡ 6)))
  pub refused : answer ≡ 3 → IfSome old.left IsRefused
  pub accepted : AsksToRead asked → IfSome old.left (λ bytes. IsRefused bytes → (answer ≡ 1) ⊎ ((answer ≡ 4) ⊎ ((answer ≡ 6) ⊎ (answer ≡ 3))))
  -- with the statuses 0, 3 and 5 of a command that reads the source was read to its end
  pub read_whole : AsksToRead asked → (answer ≡ 0) ⊎ ((answer ≡ 3) ⊎ (answer ≡ 5)) → IsAtEnd new.left
  -- a command where no count of faults rises is done, unless memory runs out or one of the exact causes holds
  pub complete : (command : Command) → asked ≡ Some command → ¬ Rose old.reads new.reads → ¬ Rose old.writes new.writes
      → (answer ≡ 0) ⊎ ((answer ≡ 1) ⊎ ((reads command ≡ true) × ((answer ≡ 3) ⊎ (answer ≡ 6))))
