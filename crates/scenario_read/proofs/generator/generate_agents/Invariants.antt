use Rattle.std.proofs.Common.{◌≡◌, ◌≤◌, ◌+◌, ◌-◌, ◌*◌, ◌++◌}
use Rattle.scenario_read.specs.Generator.{generated_agents, state_after}
use Rattle.scenario_read.proofs.generator.generate_agents.Given as goal

-- the agents so far, ahead of those that are left
abbrev pub invariant-loop-number : goal.invariant-loop-number
invariant-loop-number l = record {
  agents : l.agents.items ++ generated_agents l.side l.number (l.count - l.number) l.draws.state ≡ generated_agents l.side 0 l.count l.fn.draws.state;
  state : l.draws.state ≡ state_after (6 * l.number) l.fn.draws.state;
  room : l.count ≤ l.number + l.agents.spare;
}
