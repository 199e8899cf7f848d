-- There are at most as many goals as agents.
use Rattle.std.proofs.Common.{◌≡◌, ◌≢◌, ◌∙◌, ◌<◌, ◌≤◌, ◌||◌, ℕ, Bool, true, false, eqb, List, [], ◌∷◌, length, map, arith, sym, refl}
use Rattle.std.proofs.lemmas.Bool.{false≢true}
use Rattle.std.specs.List.{All, AllPairs, list_any}
use Rattle.std.proofs.lemmas.Bool.Decides.{Decides-eqb}
use Rattle.std.proofs.lemmas.List.{get_or-map, length-map}
use Rattle.std.proofs.lemmas.List.Elements.{All-head, All-tail}
use Rattle.std.proofs.lemmas.Map.Made.{IsDistinct-from_AllPairs}
use Rattle.std.proofs.lemmas.Map.Steps.{length-le_from_distinct_below}
use Rattle.crowd_data.specs.declared.post.Goal.{Goal}
use Rattle.crowd_data.specs.Limits.{IsGoal}
use Rattle.crowd_data.specs.Scenario.{IsValid, Parts}
use Rattle.live_session.proofs.Rows.{some_item}

abbrev agents_of : List Goal → List ℕ
agents_of goals = map (λ (goal : Goal). goal.agent) goals

each_below : (agents q : ℕ) (goals : List Goal) → All (IsGoal agents) goals → list_any (eqb q) (agents_of goals) ≡ true → q < agents
each_below agents q [] all h = absurd (false≢true h)
each_below agents q (goal ∷ rest) all h = by (eqb q goal.agent) (λ e. (Decides-eqb q goal.agent).0 e) (λ later. each_below agents q rest (All-tail (IsGoal agents) goal rest all) later) h
  where
    by : (own : Bool) → (own ≡ true → q ≡ goal.agent) → (list_any (eqb q) (agents_of rest) ≡ true → q < agents) → (own || list_any (eqb q) (agents_of rest)) ≡ true → q < agents
    by true same others h = let e = same refl in let first = (All-head (IsGoal agents) goal rest all).agent in omega (arith, e, first)
    by false same others h = others h

pub goals_few : (scenario : Parts) → IsValid scenario → length scenario.goals ≤ length scenario.agents
goals_few scenario valid =
    let goals = scenario.goals in
    let count = length-map goals (λ (goal : Goal). goal.agent) in
    let apart : AllPairs (λ (a b : ℕ). a ≢ b) (agents_of goals) = λ i j d before within.
    let inside : j < length goals = omega (arith, within, count) in
    let other = some_item goals j inside in
    λ e. valid.one_goal i j other before inside (sym (get_or-map (λ (goal : Goal). goal.agent) goals i other d (omega (arith, before, inside))) ∙ (e ∙ get_or-map (λ (goal : Goal). goal.agent) goals j other d inside)) in
    let most = length-le_from_distinct_below (agents_of goals) (length scenario.agents) (IsDistinct-from_AllPairs Decides-eqb (agents_of goals) apart) (λ q h. each_below (length scenario.agents) q goals valid.goals h) in
    omega (arith, most, count)
