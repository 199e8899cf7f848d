use Rattle.std.proofs.Common.{◌≡◌, ◌<◌, ◌+◌, ℕ, length, slice_index_or}
use Rattle.published_frames.specs.Names.{writer_history, writer_source}
use Rattle.live_session.specs.declared.steered.Steered.{Steered}
use Rattle.live_session.specs.Steering.{IsLate, IsSteered}
use Rattle.live_session.proofs.own_turns.last_turns.Given as goal

abbrev pub invariant-loop-i : goal.invariant-loop-i
invariant-loop-i g l = record {
  count : length l.list.items ≡ length l.fn.list.items;
  done : (number : ℕ) (other : Steered) → number < l.i → IsSteered l.posts (writer_source l.desk.writer) (writer_history l.desk.writer) (l.desk.stepper.frame.number + 1) number (slice_index_or l.list.items number other) × IsLate (writer_history l.desk.writer) (slice_index_or l.list.items number other).last;
  left : (number : ℕ) (other : Steered) → l.i < number + 1 → number < length l.list.items → IsSteered l.posts (writer_source l.desk.writer) (writer_history l.desk.writer) l.desk.stepper.frame.number number (slice_index_or l.list.items number other);
}
