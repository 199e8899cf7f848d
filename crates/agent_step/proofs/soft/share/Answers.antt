use Rattle.std.proofs.Common.{◌∙◌, subst, sym}
use Rattle.fixed_vec.specs.HalfPlane.{drawn_of}
use Rattle.crowd_data.specs.Advice.{nobody}
use Rattle.crowd_data.specs.Limits.{IsWeight}
use Rattle.crowd_data.specs.Pairs.{higher_share, lower_share}
use Rattle.crowd_data.specs.Run.{crowd_of}
use Rattle.crowd_data.proofs.Shares.{higher_against, lower_against}
use Rattle.agent_step.proofs.SoftPlanes.{higher_horizon, higher_pair, lower_horizon, lower_pair, there, weight-at}
use Rattle.agent_step.proofs.soft.share.Goals as goal

pub disc-others-requires-clause-who : goal.disc-others-requires-clause-who
disc-others-requires-clause-who c = there c.args.agents.now c.args.bodies.now c.requires.present c.args.who c.args.other c.requires.who c.requires.seen

pub joint_horizon-horizon-requires-clause-b : goal.joint_horizon-horizon-requires-clause-b
joint_horizon-horizon-requires-clause-b c = there c.args.agents.now c.args.bodies.now c.requires.present c.args.who c.args.other c.requires.who c.requires.seen

pub weight-others_weight-requires : goal.weight-others_weight-requires
weight-others_weight-requires c = there c.args.agents.now c.args.bodies.now c.requires.present c.args.who c.args.other c.requires.who c.requires.seen

pub lower_plane-requires-clause-pair : goal.lower_plane-requires-clause-pair
lower_plane-requires-clause-pair c =
    let h = c.joint_horizon-horizon.ensures ∙ lower_horizon c.args.agents.now c.args.bodies.now c.requires.present c.args.who c.args.other c.requires.who c.requires.seen in
    rw (c.disc-own.ensures, c.disc-others.ensures, h) (lower_pair c.args.agents.now c.args.bodies.now c.requires.present c.args.who c.args.other c.requires.who c.requires.seen)

pub lower_plane-requires-clause-high_weight : goal.lower_plane-requires-clause-high_weight
lower_plane-requires-clause-high_weight c =
    subst IsWeight (sym c.weight-others_weight.ensures)
    (c.requires.present.sound c.args.other nobody (there c.args.agents.now c.args.bodies.now c.requires.present c.args.who c.args.other c.requires.who c.requires.seen)).build.weight

pub higher_plane-requires-clause-low_weight : goal.higher_plane-requires-clause-low_weight
higher_plane-requires-clause-low_weight c =
    subst IsWeight (sym c.weight-others_weight.ensures)
    (c.requires.present.sound c.args.other nobody (there c.args.agents.now c.args.bodies.now c.requires.present c.args.who c.args.other c.requires.who c.requires.seen)).build.weight

pub higher_plane-requires-clause-pair : goal.higher_plane-requires-clause-pair
higher_plane-requires-clause-pair c =
    let h = c.joint_horizon-horizon.ensures ∙ higher_horizon c.args.agents.now c.args.bodies.now c.requires.present c.args.who c.args.other c.requires.who c.requires.seen in
    rw (c.disc-own.ensures, c.disc-others.ensures, h) (higher_pair c.args.agents.now c.args.bodies.now c.requires.present c.args.who c.args.other c.requires.who c.requires.seen)

pub returns-then-who-other : goal.returns-then-who-other
returns-then-who-other c =
    let h = c.joint_horizon-horizon.ensures ∙ lower_horizon c.args.agents.now c.args.bodies.now c.requires.present c.args.who c.args.other c.requires.who c.requires.seen in
    let own = c.weight-own_weight.ensures ∙ weight-at c.args.agents.now c.args.bodies.now c.requires.present c.args.who c.requires.who in
    let others = c.weight-others_weight.ensures ∙ weight-at c.args.agents.now c.args.bodies.now c.requires.present c.args.other (there c.args.agents.now c.args.bodies.now c.requires.present c.args.who c.args.other c.requires.who c.requires.seen) in
    c.lower_plane.ensures.value
    ∙ (λ i. drawn_of (lower_share (c.disc-own.ensures i) (c.disc-others.ensures i) (h i) (own i) (others i)))
    ∙ sym (lower_against (crowd_of c.args.agents.now c.args.bodies.now) c.args.who c.args.other c.if-who-other.true)

pub returns-else-who-other : goal.returns-else-who-other
returns-else-who-other c =
    let h = c.joint_horizon-horizon.ensures ∙ higher_horizon c.args.agents.now c.args.bodies.now c.requires.present c.args.who c.args.other c.requires.who c.requires.seen in
    let own = c.weight-own_weight.ensures ∙ weight-at c.args.agents.now c.args.bodies.now c.requires.present c.args.who c.requires.who in
    let others = c.weight-others_weight.ensures ∙ weight-at c.args.agents.now c.args.bodies.now c.requires.present c.args.other (there c.args.agents.now c.args.bodies.now c.requires.present c.args.who c.args.other c.requires.who c.requires.seen) in
    c.higher_plane.ensures.value
    ∙ (λ i. drawn_of (higher_share (c.disc-others.ensures i) (c.disc-own.ensures i) (h i) (others i) (own i)))
    ∙ sym (higher_against (crowd_of c.args.agents.now c.args.bodies.now) c.args.who c.args.other c.if-who-other.false)
