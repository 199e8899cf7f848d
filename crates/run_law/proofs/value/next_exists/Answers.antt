use Rattle.run_law.proofs.SomeNext.{some_next}
use Rattle.run_law.proofs.value.next_exists.Goals as goal

pub returns : goal.returns
returns c = λ frame posts present below. some_next c.args.scenario.now frame posts c.steps.ensures.valid present.full below
