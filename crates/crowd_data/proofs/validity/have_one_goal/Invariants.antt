use Rattle.std.proofs.Common.{◌≡◌, ◌≢◌, length, take}
use Rattle.std.specs.List.{AllPairs}
use Rattle.crowd_data.specs.declared.post.Goal.{Goal}
use Rattle.crowd_data.specs.Goals.{IsGoalTable}
use Rattle.crowd_data.proofs.validity.have_one_goal.Given as goal
use Rattle.crowd_data.specs.declared.limits.TheConstants.{MOST_AGENTS}

-- the table is that of the goals so far, of which no two are for one agent
abbrev pub invariant-loop-goal : goal.invariant-loop-goal
invariant-loop-goal l = record {
  size : length l.table ≡ MOST_AGENTS;
  table : IsGoalTable l.table (take l.goal-index l.goals);
  one_goal : AllPairs (λ (g : Goal) (h : Goal). g.agent ≢ h.agent) (take l.goal-index l.goals);
}
