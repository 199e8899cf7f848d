-- The views of the root's seat and of the claimers'.
use Rattle.std.specs.Prelude.{◌≡◌, ℕ, ◌+◌, ◌-◌, ◌<◌, true, false, [], ◌++◌}
use Rattle.work_claim.specs.declared.view.RoundView.{RoundView}
use Rattle.work_claim.specs.Counts.{IsEachOnce}

-- the most claimers of a round
abbrev pub most_claimers : ℕ
most_claimers = 64

-- the parts of all seats: one more than the most claimers
abbrev pub all_parts : ℕ
all_parts = most_claimers + 1

-- no claimer is lent
abbrev pub IsAllBack : RoundView → Type 0
IsAllBack v = v.parts ≡ all_parts

-- once no claimer is lent and some seat found no more, the numbers drawn are all those of the round, each once
abbrev pub IsWholeRound : RoundView → Type 0
IsWholeRound v = IsAllBack v → 0 < v.ends → IsEachOnce v.pieces v.drawn

-- the root's at first
abbrev pub opened : ℕ → RoundView
opened count = record { is_root = true; parts = all_parts; pieces = count; first = 0; rounds = 0; lent = 0; own_ends = 0; ends = 0; drawn = [] }

-- the root's as a round begins at this value of the counter
abbrev pub begun : RoundView → ℕ → RoundView
begun v start = record { is_root = true; parts = all_parts; pieces = v.pieces; first = start; rounds = v.rounds + 1; lent = 0; own_ends = 0; ends = 0; drawn = [] }

-- the root's after it lent a claimer
abbrev pub lending : RoundView → RoundView
lending v = record v { parts = v.parts - 1; lent = v.lent + 1 }

-- that claimer's
abbrev pub lent : RoundView → RoundView
lent v = record { is_root = false; parts = 1; pieces = v.pieces; first = v.first; rounds = 0; lent = 0; own_ends = 0; ends = 0; drawn = [] }

-- the root's after it took a claimer back
abbrev pub with_claimer : RoundView → RoundView → RoundView
with_claimer v w = record v { parts = v.parts + w.parts; ends = v.ends + w.ends; drawn = v.drawn ++ w.drawn }

-- that claimer's
abbrev pub spent : RoundView
spent = record { is_root = false; parts = 0; pieces = 0; first = 0; rounds = 0; lent = 0; own_ends = 0; ends = 0; drawn = [] }
