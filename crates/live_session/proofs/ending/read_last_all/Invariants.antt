use Rattle.std.proofs.Common.{◌≡◌, ◌++◌, ◌<◌, ℕ, Option, length, slice_index_or}
use Rattle.std.specs.Prelude.{IfSome}
use Rattle.published_frames.specs.declared.reader.FrameReader.{FrameReader}
use Rattle.published_frames.specs.History.{StartsWith}
use Rattle.published_frames.specs.Names.{reader_seen, writer_history}
use Rattle.live_session.proofs.ending.read_last_all.Given as goal

abbrev pub invariant-loop-reader : goal.invariant-loop-reader
invariant-loop-reader g l = record {
  split : l.fn.readers.items ≡ l.yielded ++ l.reader-iterator.rest.items;
  number : l.number ≡ length l.yielded;
  seen : (k : ℕ) (other : Option FrameReader) → k < length l.yielded → IfSome (slice_index_or l.yielded k other) (λ r. StartsWith (writer_history l.writer) (reader_seen r));
}
