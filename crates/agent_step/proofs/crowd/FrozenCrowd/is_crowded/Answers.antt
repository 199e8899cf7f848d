use Rattle.std.proofs.Common.{◌≡◌, ◌∙◌, ◌<◌, length, map, sym, subst, arith}
use Rattle.std.specs.Prelude.{◌↔◌, IsTrue}
use Rattle.crowd_data.specs.Advice.{IsCrowded, agent_at}
use Rattle.crowd_data.specs.Neighbours.{neighbours}
use Rattle.crowd_data.specs.Run.{snapshot_of}
use Rattle.agent_kdtree.specs.Seen.{seen_of}
use Rattle.agent_step.specs.Frozen.{FrozenState, agents_in}
use Rattle.agent_step.specs.Sight.{seen_by}
use Rattle.agent_step.proofs.FrozenCrowds.{crowded_as, length-standing, seen_as}
use Rattle.agent_step.proofs.crowd.FrozenCrowd.is_crowded.Goals as goal

pub is_crowded-requires-clause-who : goal.is_crowded-requires-clause-who
is_crowded-requires-clause-who c =
    let state : FrozenState = record { scenario = c.self.inside.scenario.now; frame = snapshot_of c.self.inside.frame.now } in
    let here : c.args.who < length state.scenario.agents = subst (λ (state : FrozenState). c.args.who < length state.scenario.agents) (sym c.self.view_is) c.requires.who in
    omega (arith, here, length-standing state c.self.invariant.present.full c.self.inside.places.now c.self.invariant.places)

pub is_crowded-requires-clause-near : goal.is_crowded-requires-clause-near
is_crowded-requires-clause-near c =
    let state : FrozenState = record { scenario = c.self.inside.scenario.now; frame = snapshot_of c.self.inside.frame.now } in
    let here : c.args.who < length state.scenario.agents = subst (λ (state : FrozenState). c.args.who < length state.scenario.agents) (sym c.self.view_is) c.requires.who in
    let near : map seen_of c.args.near.now ≡ seen_by (agents_in state) c.args.who =
    subst (λ (state : FrozenState). map seen_of c.args.near.now ≡ seen_by (agents_in state) c.args.who) (sym c.self.view_is) c.requires.near in
    near ∙ sym (seen_as state c.self.invariant.present.full c.self.inside.places.now c.self.invariant.places c.args.who here)
    ∙ sym (λ i. neighbours c.self.inside.places.now c.args.who (agent_at (c.agents.ensures.value i) c.args.who).range (agent_at (c.agents.ensures.value i) c.args.who).most)

pub returns : goal.returns
returns c =
    let state : FrozenState = record { scenario = c.self.inside.scenario.now; frame = snapshot_of c.self.inside.frame.now } in
    let near : map seen_of c.args.near.now ≡ seen_by (agents_in state) c.args.who =
    subst (λ (state : FrozenState). map seen_of c.args.near.now ≡ seen_by (agents_in state) c.args.who) (sym c.self.view_is) c.requires.near in
    subst (λ (state : FrozenState). IsTrue c.is_crowded.result ↔ IsCrowded (agents_in state) c.args.who) c.self.view_is
    (crowded_as state c.self.invariant.present.full c.self.inside.places.now c.self.invariant.places c.args.who c.args.near.now c.is_crowded.result near c.is_crowded.ensures)
