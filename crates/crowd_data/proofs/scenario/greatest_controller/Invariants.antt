use Rattle.std.proofs.Common.{◌≡◌, ◌≤◌, drop, max}
use Rattle.crowd_data.specs.Scenario.{controllers_of}
use Rattle.crowd_data.proofs.scenario.greatest_controller.Given as goal

-- the count so far, joined with that of the goals that are left, is the count of all
abbrev pub invariant-loop-goal : goal.invariant-loop-goal
invariant-loop-goal l = (max l.count (controllers_of (drop l.goal-index l.goals)) ≡ controllers_of l.goals) × (l.count ≤ 16)
