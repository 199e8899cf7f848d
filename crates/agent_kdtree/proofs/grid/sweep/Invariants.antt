use Rattle.std.proofs.Common.{◌≡◌, ◌+◌, ◌*◌, ◌<◌, ◌≤◌, ℕ, length, take}
use Rattle.std.specs.Prelude.{slice_index_or}
use Rattle.agent_kdtree.specs.Cells.{IsOutOfRange, cell_at}
use Rattle.agent_kdtree.specs.Keys.{seen_of_keys, seen_in_range}
use Rattle.agent_kdtree.proofs.grid.sweep.Given as goal

abbrev pub invariant-loop-row : goal.invariant-loop-row
invariant-loop-row l = record {
  len : length l.keys ≡ length l.fn.keys;
  value : seen_of_keys (take l.count l.keys) ≡ seen_in_range l.places l.query (take l.done l.order);
  within : l.done ≤ length l.order;
  room : l.count ≤ length l.keys;
  earlier : (j : ℕ) → l.done ≤ j → j < length l.order → cell_at l.places l.mesh l.order j < l.row * l.mesh.columns + l.window.left → IsOutOfRange l.places l.query (slice_index_or l.order j 0);
}
