use Rattle.agent_kdtree.proofs.Sides.{min_small}
use Rattle.agent_kdtree.proofs.bounds.low_corner.Goals as goal

pub returns-clause-inside : goal.returns-clause-inside
returns-clause-inside c = (
  min_small c.args.a.x c.args.b.x c.min.result c.min.ensures.value c.requires.first.0 c.requires.second.0,
  min_small c.args.a.y c.args.b.y c.min-2.result c.min-2.ensures.value c.requires.first.1 c.requires.second.1,
)
