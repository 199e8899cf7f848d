use Rattle.std.proofs.Common.{◌≡◌, ◌<◌, ◌^◌, drop}
use Rattle.command_words.specs.Numbers.{digits_after}
use Rattle.command_words.proofs.numbers.digits.Given as goal

-- what the rest makes of the number so far is what the whole makes of 0
abbrev pub invariant-loop-byte : goal.invariant-loop-byte
invariant-loop-byte l = (digits_after l.number (drop l.byte-index l.text) ≡ digits_after 0 l.text) × (l.number < 10 ^ l.byte-index)
