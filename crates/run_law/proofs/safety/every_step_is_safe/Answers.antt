use Rattle.run_law.proofs.Runs.{step_safe}
use Rattle.run_law.proofs.Sound.{present_sound}
use Rattle.run_law.proofs.safety.every_step_is_safe.Goals as goal

pub returns : goal.returns
returns c = λ frame next posts present step. step_safe c.args.scenario.now c.steps.ensures.valid frame next posts (present_sound c.args.scenario.now frame present) step
