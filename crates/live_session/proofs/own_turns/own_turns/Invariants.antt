use Rattle.std.proofs.Common.{◌≡◌, ◌<◌, ◌+◌, ℕ, length, slice_index_or}
use Rattle.published_frames.specs.Names.{writer_history, writer_source}
use Rattle.live_session.specs.declared.steered.Steering.{Steering}
use Rattle.live_session.specs.Steering.{IsSteering}
use Rattle.live_session.proofs.own_turns.own_turns.Given as goal

abbrev pub invariant-loop-i : goal.invariant-loop-i
invariant-loop-i g l = record {
  count : length l.list.items ≡ length l.fn.list.items;
  done : (number : ℕ) (other : Steering) → number < l.i → IsSteering l.posts (writer_source l.desk.writer) (writer_history l.desk.writer) (l.desk.stepper.frame.number + 1) number (slice_index_or l.list.items number other);
  left : (number : ℕ) (other : Steering) → l.i < number + 1 → number < length l.list.items → IsSteering l.posts (writer_source l.desk.writer) (writer_history l.desk.writer) l.desk.stepper.frame.number number (slice_index_or l.list.items number other);
}
