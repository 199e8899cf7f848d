use Rattle.std.proofs.Common.{◌≡◌, ℕ, ◌<◌, ◌*◌, length}
use Rattle.crowd_data.specs.Run.{body_at}
use Rattle.frame_step.specs.Moved.{MovesTo}
use Rattle.frame_step.proofs.moves.move_alone.Given as goal

-- the bodies of the pieces so far are moved
abbrev pub invariant-loop-piece : goal.invariant-loop-piece
invariant-loop-piece g l = record {
  moved : (who : ℕ) → who < l.piece * 32 → who < length l.bodies.items → MovesTo l.crowd who (body_at l.bodies.items who);
  count : length l.bodies.items ≡ length l.fn.bodies.items;
  planes : l.scratch ≡ l.fn.scratch;
}
