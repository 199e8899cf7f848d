use Rattle.std.proofs.Common.{◌≡◌, ◌∙◌, ◌<◌, List, length, ap, sym, subst}
use Rattle.crowd_data.specs.declared.agent.Agent.{Agent}
use Rattle.crowd_data.specs.Advice.{agent_at}
use Rattle.crowd_data.specs.Run.{body_at, snapshot_of, standing}
use Rattle.agent_step.specs.Frozen.{FrozenState, agents_in}
use Rattle.agent_step.proofs.FrozenCrowds.{agent_in}
use Rattle.agent_step.proofs.crowd.FrozenCrowd.agent.Goals as goal

pub returns-clause-value : goal.returns-clause-value
returns-clause-value c =
    let state : FrozenState = record { scenario = c.self.inside.scenario.now; frame = snapshot_of c.self.inside.frame.now } in
    let here : c.args.who < length state.scenario.agents = subst (λ (state : FrozenState). c.args.who < length state.scenario.agents) (sym c.self.view_is) c.requires in
    subst (λ (state : FrozenState). c.standing.result ≡ agent_at (agents_in state) c.args.who) c.self.view_is
    (c.standing.ensures ∙ (λ i. standing (agent_at (c.agents-agents.ensures.value i) c.args.who) (body_at (c.items-bodies.ensures i) c.args.who)) ∙ sym (agent_in state c.self.invariant.present.full c.args.who here))

pub returns-clause-speed : goal.returns-clause-speed
returns-clause-speed c =
    ap (λ (agent : Agent). agent.speed) c.standing.ensures ∙ ap (λ (agents : List Agent). (agent_at agents c.args.who).speed) c.agents-agents.ensures.value
    ∙ ap (λ (state : FrozenState). (agent_at state.scenario.agents c.args.who).speed) c.self.view_is
