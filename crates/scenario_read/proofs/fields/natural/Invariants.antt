use Rattle.std.proofs.Common.{◌≡◌, ◌<◌, ◌^◌, drop}
use Rattle.scenario_read.specs.Numbers.{digits_after}
use Rattle.scenario_read.proofs.fields.natural.Given as goal

-- what the rest makes of the number so far is what the whole makes of 0
abbrev pub invariant-loop-digit : goal.invariant-loop-digit
invariant-loop-digit l = (digits_after l.number (drop l.digit-index l.digits) ≡ digits_after 0 l.digits) × (l.number < 10 ^ l.digit-index)
