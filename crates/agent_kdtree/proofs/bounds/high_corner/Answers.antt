use Rattle.agent_kdtree.proofs.Sides.{max_small}
use Rattle.agent_kdtree.proofs.bounds.high_corner.Goals as goal

pub returns-clause-inside : goal.returns-clause-inside
returns-clause-inside c = (
  max_small c.args.a.x c.args.b.x c.max.result c.max.ensures.value c.requires.first.0 c.requires.second.0,
  max_small c.args.a.y c.args.b.y c.max-2.result c.max-2.ensures.value c.requires.first.1 c.requires.second.1,
)
