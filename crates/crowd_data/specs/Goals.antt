-- Agents that have a goal.
use Rattle.std.specs.Prelude.{◌≡◌, ℕ, ◌==◌, Bool, false, List, slice_index_or}
use Rattle.std.specs.List.{list_any}
use Rattle.crowd_data.specs.declared.post.Goal.{Goal}

-- some goal is for the agent
abbrev pub has_goal_for : List Goal → ℕ → Bool
has_goal_for goals agent = list_any (λ (goal : Goal). goal.agent == agent) goals

-- a table with one flag an agent says which agents have a goal
abbrev pub IsGoalTable : List Bool → List Goal → Type 0
IsGoalTable flags goals = (agent : ℕ) → slice_index_or flags agent false ≡ has_goal_for goals agent
