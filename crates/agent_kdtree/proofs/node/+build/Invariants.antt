use Rattle.std.proofs.Common.{length}
use Rattle.agent_kdtree.proofs.node.+build.Given as goal

abbrev pub decreases-build : goal.decreases-build
decreases-build l = length l.order.now
