use Rattle.std.proofs.Common.{◌≡◌, ◌≤◌, length, take}
use Rattle.agent_kdtree.specs.Gather.{gather, Rises}
use Rattle.agent_kdtree.specs.Seen.{seen_all}
use Rattle.agent_kdtree.proofs.query.consider_all.Given as goal

abbrev pub invariant-loop-k : goal.invariant-loop-k
invariant-loop-k l = record {
  value : seen_all l.best.items ≡ gather l.places l.query (take l.k-index l.order) (seen_all l.initial.best.items);
  room : length l.best.items ≤ l.query.most;
  rises : Rises (seen_all l.best.items);
}
