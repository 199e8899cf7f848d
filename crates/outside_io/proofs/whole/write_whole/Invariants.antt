use Rattle.std.proofs.Common.{◌≡◌, ◌≤◌, ◌++◌, List, ℕ, length}
use Rattle.std.specs.Io.KnownBytes.{Appends}
use Rattle.outside_io.proofs.whole.write_whole.Given as goal

-- what was written so far is the front of the piece
abbrev pub invariant-loop-rest : goal.invariant-loop-rest
invariant-loop-rest g l = record {
  front : List ℕ;
  whole : l.fn.piece ≡ front ++ l.rest;
  held : Appends (g.T.Sink.held l.fn.sink) (g.T.Sink.held l.sink) front;
  later : g.T.Sink.faults l.fn.sink ≤ g.T.Sink.faults l.sink;
}

abbrev pub decreases-loop-rest : goal.decreases-loop-rest
decreases-loop-rest g l = length l.rest
