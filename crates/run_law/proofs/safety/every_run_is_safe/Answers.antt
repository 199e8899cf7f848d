use Rattle.run_law.proofs.Runs.{run_safe}
use Rattle.run_law.proofs.safety.every_run_is_safe.Goals as goal

pub returns : goal.returns
returns c = λ lists frames run. run_safe c.args.scenario.now c.steps.ensures.valid lists frames run
