use Rattle.array_step.proofs.StepMade.{one_step}
use Rattle.array_step.proofs.laws.one_step.Goals as goal

pub returns : goal.returns
returns c = one_step c.args.agents.now c.args.segments.now c.args.ring
