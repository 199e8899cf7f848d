use Rattle.separation_law.proofs.FarPairs.{far_apart}
use Rattle.separation_law.proofs.far.far_pair.Goals as goal

pub returns : goal.returns
returns c = far_apart c.args.a.now c.args.b.now c.args.a_vel c.args.b_vel c.requires.far c.requires.a_speed c.requires.b_speed
