use Rattle.std.proofs.Common.{[]}
use Rattle.post_box.specs.Ends.{Transfers}
use Rattle.post_box.proofs.taker.Taker.take_rest.Given as goal

abbrev pub invariant-loop : goal.invariant-loop
invariant-loop g l = Transfers l.initial.self l.self [] l.rest.items
