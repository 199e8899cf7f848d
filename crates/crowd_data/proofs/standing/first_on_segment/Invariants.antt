use Rattle.std.proofs.Common.{take}
use Rattle.crowd_data.specs.Standing.{AllClear}
use Rattle.crowd_data.proofs.standing.first_on_segment.Given as goal

-- the agents so far are clear of all segments
abbrev pub invariant-loop-who : goal.invariant-loop-who
invariant-loop-who l = AllClear (take l.who l.agents) l.segments
