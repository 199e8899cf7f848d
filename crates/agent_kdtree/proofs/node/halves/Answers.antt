use Rattle.std.proofs.Common.{◌≡◌, length, drop, take}
use Rattle.agent_kdtree.specs.Boxes.{lower_boxes}
use Rattle.agent_kdtree.proofs.Coverings.{lower_node, upper_node}
use Rattle.agent_kdtree.proofs.node.halves.Goals as goal

pub returns-clause-lower : goal.returns-clause-lower
returns-clause-lower c = λ places h.
    let e : c.split_at-3.result.0.now ≡ take (lower_boxes (length c.args.order.now)) c.split_at-2.result.1.now = c.split_at-3.ensures.front in
    rw (c.split_at.ensures.front, e, c.split_at-2.ensures.back) (lower_node places c.args.order.now c.args.boxes.now c.requires.large h)

pub returns-clause-upper : goal.returns-clause-upper
returns-clause-upper c = λ places h.
    let e : c.split_at-3.result.1.now ≡ drop (lower_boxes (length c.args.order.now)) c.split_at-2.result.1.now = c.split_at-3.ensures.back in
    rw (c.split_at.ensures.back, e, c.split_at-2.ensures.back) (upper_node places c.args.order.now c.args.boxes.now c.requires.large h)
