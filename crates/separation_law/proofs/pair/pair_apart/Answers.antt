use Rattle.separation_law.proofs.Pairs.{horizon_apart, step_apart}
use Rattle.separation_law.proofs.pair.pair_apart.Goals as goal

pub returns : goal.returns
returns c = record {
  horizon = horizon_apart c.args.low.now c.args.high.now c.args.tau c.args.low_weight c.args.high_weight c.args.low_vel c.args.high_vel c.requires.limits c.requires.apart c.requires.low_share c.requires.high_share;
  step = step_apart c.args.low.now c.args.high.now c.args.tau c.args.low_weight c.args.high_weight c.args.low_vel c.args.high_vel c.requires.limits c.requires.apart c.requires.low_share c.requires.high_share;
}
