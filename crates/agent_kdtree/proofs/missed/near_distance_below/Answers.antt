use Rattle.agent_kdtree.proofs.Coverings.{covered-bounds}
use Rattle.agent_kdtree.proofs.missed.near_distance_below.Goals as goal

pub near_distance-requires-clause-bounds : goal.near_distance-requires-clause-bounds
near_distance-requires-clause-bounds c = covered-bounds c.args.places.now c.args.order.now c.args.boxes.now c.requires.node.covered
