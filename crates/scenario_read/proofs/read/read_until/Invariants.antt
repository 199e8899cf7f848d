use Rattle.std.proofs.Common.{◌≡◌, ◌≤◌, ◌+◌, length}
use Rattle.std.specs.Option.{option_copied}
use Rattle.scenario_read.specs.Additions.{read_of}
use Rattle.scenario_read.specs.Part.{part_of}
use Rattle.scenario_read.specs.Reading.{outcome}
use Rattle.scenario_read.specs.Records.{records_of}
use Rattle.scenario_read.specs.Remaining.{outcome_with}
use Rattle.scenario_read.proofs.read.read_until.Given as goal

-- what the rest makes of what was read is what the part's records stand for
abbrev pub invariant-loop-reading : goal.invariant-loop-reading
invariant-loop-reading l = (l.index + length l.reader ≤ length l.fn.bytes)
    × (outcome_with (read_of l.reading) l.refusal l.index (part_of (option_copied l.fn.stop) l.reader) ≡ outcome (part_of (option_copied l.fn.stop) (records_of l.fn.bytes)))
    × (l.index + length (part_of (option_copied l.fn.stop) l.reader) ≡ length (part_of (option_copied l.fn.stop) (records_of l.fn.bytes)))

-- each turn takes a record
abbrev pub decreases-loop-reading : goal.decreases-loop-reading
decreases-loop-reading l = length l.reader
