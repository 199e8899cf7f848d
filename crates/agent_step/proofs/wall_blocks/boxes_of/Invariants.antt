use Rattle.std.proofs.Common.{◌≡◌, ◌+◌, ◌<◌, ◌≤◌, ℕ, length, slice_index_or}
use Rattle.std.specs.List.{All}
use Rattle.agent_step.specs.WallBlocks.{IsAround, block_at, no_extent}
use Rattle.agent_step.proofs.wall_blocks.boxes_of.Given as goal

abbrev pub invariant-loop-k : goal.invariant-loop-k
invariant-loop-k l = record {
  so_far : length l.boxes.items ≡ l.k;
  around : (j : ℕ) → j < l.k → All (IsAround (slice_index_or l.boxes.items j no_extent)) (block_at l.segments j);
  room : l.count ≤ l.k + l.boxes.spare;
}
