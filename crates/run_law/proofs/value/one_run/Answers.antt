use Rattle.run_law.proofs.OneValue.{one_run as same_run}
use Rattle.run_law.proofs.value.one_run.Goals as goal

pub returns : goal.returns
returns c = λ lists frames others one two. same_run c.args.scenario.now lists frames others one two
