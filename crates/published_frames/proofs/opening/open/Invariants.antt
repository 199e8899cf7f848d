use Rattle.std.proofs.Common.{◌≡◌, [], length, All}
use Rattle.std.specs.Vec.{vec_capacity}
use Rattle.published_frames.specs.Names.{IsNewReader, writer_history, writer_source}
use Rattle.published_frames.proofs.opening.open.Given as goal

-- so many readers are made, each of this writer, which has published nothing
abbrev pub invariant-loop : goal.invariant-loop
invariant-loop g l = record {
  count : length l.places.items ≡ l.counter;
  room : vec_capacity l.places ≡ vec_capacity l.initial.places;
  readers : All (IsNewReader (writer_source l.initial.writer) []) l.places.items;
  source : writer_source l.writer ≡ writer_source l.initial.writer;
  history : writer_history l.writer ≡ [];
}
