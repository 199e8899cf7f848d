use Rattle.std.proofs.Common.{◌≡◌, ◌≤◌, ◌+◌, ◌++◌, drop, length}
use Rattle.scenario_read.specs.Generator.{generated_goals}
use Rattle.scenario_read.proofs.generator.generate_goals.Given as goal

-- the goals so far, ahead of those that are left
abbrev pub invariant-loop-number : goal.invariant-loop-number
invariant-loop-number l = record {
  goals : l.goals.items ++ generated_goals l.number (drop l.number l.agents) ≡ generated_goals 0 l.agents;
  room : length l.agents ≤ l.number + l.goals.spare;
}
