use Rattle.std.proofs.Common.{length}
use Rattle.fixed_vec.specs.Meeting.{relieved_after}
use Rattle.planar_program.specs.Taken.{IsTaken, IsBest}
use Rattle.planar_program.proofs.optimum.optimum.Given as goal

abbrev pub invariant-loop-place : goal.invariant-loop-place
invariant-loop-place l = record { best : IsBest (IsTaken (relieved_after l.hard l.relief l.planes) l.hard l.head l.place l.hard 0) l.pref l.best }

abbrev pub invariant-loop-place-2 : goal.invariant-loop-place-2
invariant-loop-place-2 l = record { best : IsBest (IsTaken (relieved_after l.hard l.relief l.planes) l.hard l.head l.head_end l.place 0) l.pref l.best }

abbrev pub invariant-loop-place-3 : goal.invariant-loop-place-3
invariant-loop-place-3 l = record { best : IsBest (IsTaken (relieved_after l.hard l.relief l.planes) l.hard l.head l.head_end (length l.planes) l.place) l.pref l.best }
