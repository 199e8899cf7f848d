use Rattle.std.proofs.Common.{◌≡◌, ◌≤◌, ◌++◌, length, map}
use Rattle.std.specs.Vec.{vec_capacity}
use Rattle.live_session.specs.declared.steered.Steered.{Steered}
use Rattle.live_session.proofs.joining.parted.Given as goal

abbrev pub invariant-loop-steered : goal.invariant-loop-steered
invariant-loop-steered l = record {
  split : l.fn.list.items ≡ l.yielded ++ l.steered-iterator.rest.items;
  posters : l.posters.items ≡ map (λ (s : Steered). s.poster) l.yielded;
  readers : l.readers.items ≡ map (λ (s : Steered). s.reader) l.yielded;
  room : (length l.fn.list.items ≤ vec_capacity l.posters) × (length l.fn.list.items ≤ vec_capacity l.readers);
}
