use Rattle.text_law.proofs.Accepted.{text_accepted}
use Rattle.text_law.proofs.scenario.reads_back.Goals as goal

pub returns : goal.returns
returns c = text_accepted c.args.scenario.now
