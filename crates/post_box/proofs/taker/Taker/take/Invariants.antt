use Rattle.std.proofs.Common.{◌≡◌, ◌+◌, length}
use Rattle.post_box.specs.Ends.{Transfers}
use Rattle.post_box.proofs.taker.Taker.take.Given as goal

abbrev pub invariant-loop : goal.invariant-loop
invariant-loop g l = record {
  moved : Transfers l.initial.self l.self l.initial.into.items l.into.items;
  count : length l.into.items ≡ length l.initial.into.items + l.counter;
  spare : l.into.spare + length l.into.items ≡ l.initial.into.spare + length l.initial.into.items;
}
