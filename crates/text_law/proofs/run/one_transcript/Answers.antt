use Rattle.text_law.proofs.RunText.{one_transcript}
use Rattle.text_law.proofs.run.one_transcript.Goals as goal

pub returns : goal.returns
returns c = one_transcript c.args.scenario.now
