use Rattle.std.proofs.Common.{◌≡◌, ◌∙◌, ◌<◌, length, sym, subst}
use Rattle.crowd_data.specs.Advice.{agent_at}
use Rattle.crowd_data.specs.RingPlanes.{ring_planes}
use Rattle.crowd_data.specs.Run.{snapshot_of}
use Rattle.agent_step.specs.Frozen.{FrozenState, agents_in}
use Rattle.agent_step.proofs.FrozenCrowds.{polygon_of}
use Rattle.agent_step.proofs.crowd.FrozenCrowd.polygon.Goals as goal

pub returns : goal.returns
returns c =
    let state : FrozenState = record { scenario = c.self.inside.scenario.now; frame = snapshot_of c.self.inside.frame.now } in
    let here : c.args.who < length state.scenario.agents = subst (λ (state : FrozenState). c.args.who < length state.scenario.agents) (sym c.self.view_is) c.requires in
    subst (λ (state : FrozenState). c.of.result.now ≡ ring_planes state.scenario.ring (agent_at (agents_in state) c.args.who).speed) c.self.view_is
    (c.of.ensures ∙ polygon_of state c.self.invariant.present.full c.self.inside.polygons.now c.args.who here c.self.invariant.polygons)
