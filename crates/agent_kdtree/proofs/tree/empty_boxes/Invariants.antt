use Rattle.std.proofs.Common.{◌≡◌, ◌≤◌, length}
use Rattle.std.specs.Prelude.{vec_len, vec_capacity}
use Rattle.agent_kdtree.proofs.tree.empty_boxes.Given as goal

abbrev pub invariant-loop : goal.invariant-loop
invariant-loop l = record {
  items : length l.boxes.items ≡ l.counter;
  len : vec_len l.boxes ≡ l.counter;
  room : l.count ≤ vec_capacity l.boxes;
}
