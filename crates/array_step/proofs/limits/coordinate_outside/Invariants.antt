use Rattle.std.proofs.Common.{◌<◌, ◌≤◌, ℕ}
use Rattle.crowd_data.specs.declared.limits.TheConstants.{GREATEST_COORDINATE}
use Rattle.array_step.specs.Faults.{at}
use Rattle.array_step.proofs.limits.coordinate_outside.Given as goal

-- the coordinates so far are within their limits
abbrev pub invariant-loop-field : goal.invariant-loop-field
invariant-loop-field l = (k : ℕ) → k < l.field → at l.reaches k ≤ GREATEST_COORDINATE
