use Rattle.std.proofs.Common.{◌≡◌, map, take}
use Rattle.clap.specs.Words.{app_of}
use Rattle.command_words.specs.Reading.{app_for, known_of}
use Rattle.command_words.proofs.options.command.Given as goal

-- the command with the options so far
abbrev pub invariant-loop-option : goal.invariant-loop-option
invariant-loop-option l = app_of l.command ≡ app_for l.name (map known_of (take l.option-index l.known))
