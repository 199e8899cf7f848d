-- The controllers of goals.
use Rattle.std.proofs.Common.{ℕ, ◌≤◌, List, [], ◌∷◌, arith}
use Rattle.std.specs.List.{All}
use Rattle.std.proofs.lemmas.List.Elements.{All-head, All-tail}
use Rattle.crowd_data.specs.declared.post.Goal.{Goal}
use Rattle.crowd_data.specs.Limits.{IsGoal}
use Rattle.crowd_data.specs.Scenario.{controllers_of}

-- they are at most 16
pub controllers_few : (agents : ℕ) (goals : List Goal) → All (IsGoal agents) goals → controllers_of goals ≤ 16
controllers_few agents [] all = omega arith
controllers_few agents (goal ∷ rest) all =
    let first = (All-head (IsGoal agents) goal rest all).controller in
    let others = controllers_few agents rest (All-tail (IsGoal agents) goal rest all) in
    omega arith
