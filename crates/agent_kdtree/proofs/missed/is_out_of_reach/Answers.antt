use Rattle.std.proofs.Common.{get_or, arith, ◌<◌, ◌*◌}
use Rattle.std.proofs.lemmas.Bool.Decides.{nat_tests}
use Rattle.crowd_data.specs.Neighbours.{place_at}
use Rattle.agent_kdtree.specs.Boxes.{box_at}
use Rattle.agent_kdtree.proofs.Coverings.{covered-covers}
use Rattle.agent_kdtree.proofs.MissedAgents.{not_near}
use Rattle.agent_kdtree.proofs.missed.is_out_of_reach.Goals as goal

pub returns : goal.returns
returns c = λ t k d h.
    let below : c.near_distance_below-touching.result * c.near_distance_below-touching.result < c.node_distance.result = grind (arith, nat_tests) in
    not_near (place_at c.args.places.now c.args.who) (place_at c.args.places.now (get_or c.args.order.now k d)) c.near_distance_below-touching.result c.node_distance.result (box_at c.args.boxes.now 0)
    (covered-covers c.args.places.now c.args.order.now c.args.boxes.now c.requires.node.covered k d h) c.near_distance_below-touching.ensures.value below (c.node_distance.ensures k d h)
