use Rattle.std.proofs.Common.{◌≡◌, take}
use Rattle.run_summary.specs.Summary.{greatest_relief as greatest_relief_of}
use Rattle.run_summary.proofs.counts.greatest_relief.Given as goal

-- the greatest relief so far
abbrev pub invariant-loop-body : goal.invariant-loop-body
invariant-loop-body l = l.greatest ≡ greatest_relief_of (take l.body-index l.bodies)
