use Rattle.array_step.proofs.Parts.{joined, whole}
use Rattle.array_step.proofs.laws.parts_make_a_step.Goals as goal

pub returns : goal.returns
returns c = record {
  joined = joined c.args.agents.now c.args.segments.now c.args.ring;
  whole = whole c.args.agents.now c.args.segments.now c.args.ring;
}
