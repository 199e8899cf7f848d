use Rattle.text_law.proofs.RunText.{accepted, scripted_accepted}
use Rattle.text_law.proofs.run.transcripts_are_accepted.Goals as goal

pub returns-clause-posts : goal.returns-clause-posts
returns-clause-posts c = accepted c.args.scenario.now

pub returns-clause-scripted : goal.returns-clause-scripted
returns-clause-scripted c = scripted_accepted c.args.scenario.now
