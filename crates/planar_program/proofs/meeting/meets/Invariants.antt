use Rattle.fixed_vec.specs.Meeting.{relieved_after}
use Rattle.planar_line.proofs.Ranges.{IsInRange}
use Rattle.planar_program.proofs.meeting.meets.Given as goal

abbrev pub invariant-loop-place : goal.invariant-loop-place
invariant-loop-place l = record { inside : IsInRange (relieved_after l.hard l.relief l.planes) 0 l.place l.point }
