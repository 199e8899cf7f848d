use Rattle.run_law.proofs.OneValue.{one_next as same_next}
use Rattle.run_law.proofs.value.one_next.Goals as goal

pub returns : goal.returns
returns c = λ frame next other posts one two. same_next c.args.scenario.now frame posts next other one two
