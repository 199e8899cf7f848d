use Rattle.std.proofs.Common.{ℕ, ◌-◌, ◌<◌}
use Rattle.fixed_vec.specs.Meeting.{IsEmpty, relieved_after}
use Rattle.planar_program.proofs.relief.least_relief.Given as goal

abbrev pub invariant-loop-relief : goal.invariant-loop-relief
invariant-loop-relief l = record { empty : (d : ℕ) → d < l.relief → IsEmpty (relieved_after l.hard d l.planes) }

abbrev pub decreases-loop-relief : goal.decreases-loop-relief
decreases-loop-relief l = 262144 - l.relief
