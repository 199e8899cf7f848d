use Rattle.separation_law.proofs.Pairs.{end_apart}
use Rattle.separation_law.proofs.pair.pair_apart_at_end.Goals as goal

pub returns : goal.returns
returns c = end_apart c.args.low.now c.args.high.now c.args.tau c.args.low_weight c.args.high_weight c.args.low_vel c.args.high_vel c.requires.overlap c.requires.low_share c.requires.high_share
