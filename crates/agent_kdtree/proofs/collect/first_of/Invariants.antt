use Rattle.std.proofs.Common.{◌≡◌, take}
use Rattle.agent_kdtree.specs.Keys.{seen_of_keys}
use Rattle.agent_kdtree.specs.Seen.{seen_all}
use Rattle.agent_kdtree.proofs.collect.first_of.Given as goal

abbrev pub invariant-loop-i : goal.invariant-loop-i
invariant-loop-i l = seen_all l.best.items ≡ seen_of_keys (take l.i l.keys)
