use Rattle.std.proofs.Common.{rules}
use Rattle.agent_kdtree.proofs.SquaredGap.{squared_gap-coded}
use Rattle.agent_kdtree.proofs.distance.distance.Goals as goal

pub returns : goal.returns
returns c =
    let gap = squared_gap-coded c.args.a c.args.b c.abs_diff-across.result c.abs_diff-up.result c.requires.first c.requires.second c.abs_diff-across.ensures c.abs_diff-up.ensures in
    rw gap (search rules)
