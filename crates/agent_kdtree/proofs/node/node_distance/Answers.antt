use Rattle.crowd_data.specs.Neighbours.{place_at}
use Rattle.std.proofs.Common.{get_or}
use Rattle.agent_kdtree.proofs.Coverings.{covered-bounds, covered-covers}
use Rattle.agent_kdtree.proofs.node.node_distance.Goals as goal

pub box_distance-requires-clause-bounds : goal.box_distance-requires-clause-bounds
box_distance-requires-clause-bounds c = covered-bounds c.args.places.now c.args.order.now c.args.boxes.now c.requires.node.covered

pub returns : goal.returns
returns c = λ k d h. c.box_distance.ensures (place_at c.args.places.now (get_or c.args.order.now k d)).pos (covered-covers c.args.places.now c.args.order.now c.args.boxes.now c.requires.node.covered k d h).within
