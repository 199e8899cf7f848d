use Rattle.std.proofs.Common.{◌≡◌, ◌∙◌, ◌<◌, length, map, sym, subst, arith}
use Rattle.crowd_data.specs.Advice.{agent_at}
use Rattle.crowd_data.specs.Neighbours.{neighbours}
use Rattle.crowd_data.specs.Run.{snapshot_of}
use Rattle.agent_kdtree.specs.Seen.{seen_of}
use Rattle.agent_step.specs.Frozen.{FrozenState, agents_in}
use Rattle.agent_step.specs.Sight.{seen_by}
use Rattle.agent_step.proofs.FrozenCrowds.{length-standing, seen_as}
use Rattle.agent_step.proofs.crowd.FrozenCrowd.find_neighbours.Goals as goal

pub find-requires-clause-who : goal.find-requires-clause-who
find-requires-clause-who c =
    let state : FrozenState = record { scenario = c.self.inside.scenario.now; frame = snapshot_of c.self.inside.frame.now } in
    let here : c.args.who < length state.scenario.agents = subst (λ (state : FrozenState). c.args.who < length state.scenario.agents) (sym c.self.view_is) c.requires.who in
    omega (arith, here, length-standing state c.self.invariant.present.full c.self.inside.places.now c.self.invariant.places)

pub returns : goal.returns
returns c =
    let state : FrozenState = record { scenario = c.self.inside.scenario.now; frame = snapshot_of c.self.inside.frame.now } in
    let here : c.args.who < length state.scenario.agents = subst (λ (state : FrozenState). c.args.who < length state.scenario.agents) (sym c.self.view_is) c.requires.who in
    subst (λ (state : FrozenState). map seen_of c.find.new.best.items ≡ seen_by (agents_in state) c.args.who) c.self.view_is
    (c.find.ensures
    ∙ (λ i. neighbours c.self.inside.places.now c.args.who (agent_at (c.agents.ensures.value i) c.args.who).range (agent_at (c.agents.ensures.value i) c.args.who).most)
    ∙ seen_as state c.self.invariant.present.full c.self.inside.places.now c.self.invariant.places c.args.who here)
