use Rattle.std.proofs.Common.{◌≡◌, ◌+◌, ◌≤◌, ◌++◌, length, take}
use Rattle.agent_kdtree.specs.Keys.{seen_of_keys, seen_in_range}
use Rattle.agent_kdtree.proofs.collect.collect.Given as goal

abbrev pub invariant-loop-k : goal.invariant-loop-k
invariant-loop-k l = record {
  len : length l.keys ≡ length l.fn.keys;
  few : l.count ≤ l.fn.count + l.k-index;
  value : seen_of_keys (take l.count l.keys) ≡ seen_of_keys (take l.fn.count l.fn.keys) ++ seen_in_range l.places l.query (take l.k-index l.order);
}
