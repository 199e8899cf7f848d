use Rattle.std.proofs.Common.{◌≤◌, ◌+◌}
use Rattle.agent_step.proofs.shared_polygons.zeros.Given as goal

abbrev pub invariant-loop : goal.invariant-loop
invariant-loop l = l.count ≤ l.counter + l.list.spare
