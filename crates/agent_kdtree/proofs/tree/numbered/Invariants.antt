use Rattle.std.proofs.Common.{◌≡◌, ◌≤◌}
use Rattle.std.specs.Prelude.{vec_len, vec_capacity}
use Rattle.crowd_data.specs.Neighbours.{numbers}
use Rattle.agent_kdtree.proofs.tree.numbered.Given as goal

abbrev pub invariant-loop-k : goal.invariant-loop-k
invariant-loop-k l = record {
  items : l.order.items ≡ numbers l.k;
  len : vec_len l.order ≡ l.k;
  room : l.count ≤ vec_capacity l.order;
}
