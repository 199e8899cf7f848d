use Rattle.std.proofs.Common.{◌≡◌, ℕ, ◌<◌, ◌≤◌, length}
use Rattle.agent_step.specs.Frozen.{FrozenState}
use Rattle.crowd_data.specs.Run.{body_at}
use Rattle.frame_step.specs.Moved.{IsPieceMoved, KeepsMoved, MovesTo}
use Rattle.frame_step.proofs.putting.put_piece.Given as goal

-- the bodies so far are put
abbrev pub invariant-loop-who : goal.invariant-loop-who
invariant-loop-who l = record {
  moved : (state : FrozenState) → IsPieceMoved state l.fn.bodies l.fn.piece → (who : ℕ) → l.from ≤ who → who < l.who → MovesTo state who (body_at l.into.items who);
  others : (state : FrozenState) → IsPieceMoved state l.fn.bodies l.fn.piece → KeepsMoved state l.fn.into.items l.into.items;
  count : length l.into.items ≡ length l.fn.into.items;
}
