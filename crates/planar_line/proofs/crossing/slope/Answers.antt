use Rattle.planar_line.proofs.Sizes.{normal_small}
use Rattle.planar_line.proofs.crossing.slope.Goals as goal

pub cross-requires-clause-a_small : goal.cross-requires-clause-a_small
cross-requires-clause-a_small c = rw c.n.ensures.value (normal_small c.args.first.now c.n.ensures.fits)

pub cross-requires-clause-b_small : goal.cross-requires-clause-b_small
cross-requires-clause-b_small c = rw c.n-2.ensures.value (normal_small c.args.second.now c.n-2.ensures.fits)
