use Rattle.std.proofs.Common.{◌≡◌, ◌<◌, ◌≤◌, ℕ, length, map}
use Rattle.std.specs.Prelude.{slice_index_or}
use Rattle.agent_kdtree.specs.Cells.{IsStart, cell_at}
use Rattle.agent_kdtree.specs.Keys.{low_half}
use Rattle.agent_kdtree.proofs.grid.find_starts.Given as goal

abbrev pub invariant-loop-at : goal.invariant-loop-at
invariant-loop-at l = record {
  len : length l.starts ≡ length l.fn.starts;
  next : l.next ≤ length l.fn.starts;
  begins : (cell : ℕ) → cell < l.next → IsStart l.places l.mesh (map low_half l.keys) l.at cell (slice_index_or l.starts cell 0);
  below : (j : ℕ) → j < l.at → cell_at l.places l.mesh (map low_half l.keys) j < l.next;
}
