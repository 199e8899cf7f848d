use Rattle.std.proofs.Common.{◌∙◌, ◌+◌, ◌++◌, List, ◌-◌, ap, arith}
use Rattle.crowd_data.specs.declared.agent.Agent.{Agent}
use Rattle.scenario_read.specs.Generator.{generated_agents}
use Rattle.scenario_read.proofs.GeneratedSteps.{agents_all, agents_more, all_left, no_draws, six_more}
use Rattle.scenario_read.proofs.generator.generate_agents.Goals as goal

pub loop-number-init : goal.loop-number-init
loop-number-init c = record {
  agents = rw c.in_ok-agents.ensures.empty (ap (λ n. generated_agents c.args.side 0 n c.args.draws.now.state) (all_left c.args.count));
  state = no_draws c.args.draws.now.state;
  room = omega (arith, c.in_ok-agents.ensures.room);
}

pub loop-number-preserved : goal.loop-number-preserved
loop-number-preserved c =
    let i = c.loop-number.invariant in
    record {
      agents =
          ap (λ (xs : List Agent). xs ++ generated_agents c.args.side (c.loop-number.number + 1) (c.args.count - (c.loop-number.number + 1)) c.generate_agent.new.draws.state) c.push.ensures.items
          ∙ agents_more c.args.side c.loop-number.agents.items _ c.loop-number.number c.args.count c.loop-number.draws.state c.generate_agent.new.draws.state c.generate_agent.result c.loop-number-test.true
          c.generate_agent.ensures.agent c.generate_agent.ensures.state i.agents;
      state = six_more c.loop-number.number c.args.draws.now.state c.loop-number.draws.state c.generate_agent.new.draws.state i.state c.generate_agent.ensures.state;
      room = omega (arith, i.room, c.push.ensures.spare);
    }

pub returns-clause-agents : goal.returns-clause-agents
returns-clause-agents c =
    agents_all c.args.side c.loop-number.agents.items _ c.loop-number.number c.args.count c.loop-number.draws.state (omega (arith, c.loop-number-test.false)) c.loop-number.invariant.agents
