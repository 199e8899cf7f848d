use Rattle.std.proofs.Common.{◌≡◌, ℕ, ◌<◌, ◌≤◌, length}
use Rattle.crowd_data.specs.Run.{body_at}
use Rattle.frame_step.specs.Moved.{KeepsMoved, MovesTo}
use Rattle.frame_step.proofs.moves.move_piece.Given as goal

-- the bodies so far are moved
abbrev pub invariant-loop-who : goal.invariant-loop-who
invariant-loop-who l = record {
  moved : (who : ℕ) → l.from ≤ who → who < l.who → MovesTo l.crowd who (body_at l.bodies.items who);
  others : KeepsMoved l.crowd l.fn.bodies.items l.bodies.items;
  count : length l.bodies.items ≡ length l.fn.bodies.items;
  planes : l.scratch ≡ l.fn.scratch;
}
