use Rattle.std.proofs.Common.{◌≡◌, ℕ, ◌<◌, length, slice_index_or}
use Rattle.std.specs.List.{All}
use Rattle.agent_step.specs.Frozen.{FrozenState}
use Rattle.frame_step.specs.Moved.{IsPieceMoved, KeepsMoved}
use Rattle.frame_step.proofs.putting.put_pieces.Given as goal

-- the bodies of the pieces so far are put
abbrev pub invariant-loop-piece : goal.invariant-loop-piece
invariant-loop-piece l = record {
  moved : (state : FrozenState) → All (IsPieceMoved state l.fn.bodies) l.fn.pieces → (k d : ℕ) → k < l.piece-index → IsPieceMoved state l.into.items (slice_index_or l.fn.pieces k d);
  others : (state : FrozenState) → All (IsPieceMoved state l.fn.bodies) l.fn.pieces → KeepsMoved state l.fn.into.items l.into.items;
  count : length l.into.items ≡ length l.fn.into.items;
}
