use Rattle.std.proofs.Common.{◌≡◌, ◌≤◌, ◌-◌, length, take}
use Rattle.controller_turns.specs.Turns.{goals_of}
use Rattle.live_session.proofs.starting.controller_for.Given as goal

abbrev pub invariant-loop-goal : goal.invariant-loop-goal
invariant-loop-goal l = record {
  own : l.own.items ≡ goals_of l.number (take l.goal-index l.goals);
  room : length l.goals - l.goal-index ≤ l.own.spare;
}
