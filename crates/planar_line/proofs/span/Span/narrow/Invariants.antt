use Rattle.fixed_vec.specs.Meeting.{relieved_after}
use Rattle.planar_line.specs.Span.{IsOnStretch}
use Rattle.planar_line.proofs.Ranges.{Narrows}
use Rattle.planar_line.proofs.span.Span.narrow.Given as goal

abbrev pub invariant-loop-place : goal.invariant-loop-place
invariant-loop-place l = record { exact : Narrows (relieved_after l.hard l.relief l.planes) (IsOnStretch l.self) (IsOnStretch l.fn.self) l.from l.place }
