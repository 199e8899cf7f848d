use Rattle.run_law.proofs.OneValue.{one_advice as same_advice}
use Rattle.run_law.proofs.value.one_advice.Goals as goal

pub returns : goal.returns
returns c = λ crowd who vel other_vel mark other_mark relief other one two. same_advice c.args.scenario.now crowd who vel other_vel mark other_mark relief other one two
