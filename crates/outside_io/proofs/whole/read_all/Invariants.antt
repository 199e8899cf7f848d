use Rattle.std.proofs.Common.{◌≤◌, length}
use Rattle.std.specs.Io.KnownBytes.{Consumes}
use Rattle.outside_io.proofs.whole.read_all.Given as goal

-- what came so far, at least a byte a turn, and no more than the limit
abbrev pub invariant-loop-turn : goal.invariant-loop-turn
invariant-loop-turn g l = record {
  came : Consumes (g.S.Source.left l.fn.source) (g.S.Source.left l.source) l.all.items;
  byte_a_turn : l.turn ≤ length l.all.items;
  short : length l.all.items ≤ l.limit;
  later : g.S.Source.faults l.fn.source ≤ g.S.Source.faults l.source;
}
