use Rattle.std.proofs.Common.{length}
use Rattle.agent_kdtree.proofs.node.+search.Given as goal

abbrev pub decreases-search : goal.decreases-search
decreases-search l = length l.order.now
