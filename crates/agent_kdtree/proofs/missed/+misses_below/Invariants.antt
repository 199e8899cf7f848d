use Rattle.std.proofs.Common.{length}
use Rattle.agent_kdtree.proofs.missed.+misses_below.Given as goal

abbrev pub decreases-misses_below : goal.decreases-misses_below
decreases-misses_below l = length l.order.now
