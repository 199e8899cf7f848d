use Rattle.std.proofs.Common.{◌≡◌, ◌≤◌, ◌+◌, length}
use Rattle.std.specs.List.{All}
use Rattle.crowd_data.specs.Limits.{IsAgent}
use Rattle.thread_tests.proofs.stepping.row_of.Given as goal

-- the agents so far
abbrev pub invariant-loop-number : goal.invariant-loop-number
invariant-loop-number l = record {
  made : length l.agents.items ≡ l.number;
  room : l.count ≤ length l.agents.items + l.agents.spare;
  sound : All IsAgent l.agents.items;
}
