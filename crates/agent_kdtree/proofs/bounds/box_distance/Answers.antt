use Rattle.std.proofs.Common.{arith}
use Rattle.agent_kdtree.proofs.SquaredGap.{squared_gap-least}
use Rattle.agent_kdtree.proofs.Sides.{kept}
use Rattle.agent_kdtree.proofs.bounds.box_distance.Goals as goal

pub returns : goal.returns
returns c = λ v h.
    let e = rw (kept c.args.bounds.now.low.x c.requires.bounds.low.0, kept c.args.bounds.now.high.x c.requires.bounds.high.0, kept c.args.at.x c.requires.at.0) at c.beyond-across.ensures.least in
    let i = rw (kept c.args.bounds.now.low.y c.requires.bounds.low.1, kept c.args.bounds.now.high.y c.requires.bounds.high.1, kept c.args.at.y c.requires.at.1) at c.beyond-up.ensures.least in
    let least = squared_gap-least v c.args.at c.beyond-across.result c.beyond-up.result (e v.x h.left h.right) (i v.y h.below h.above) in
    omega (arith, least)
