-- A table of agents that have a goal, as agents and goals come one at a time.
use Rattle.std.proofs.Common.{◌≡◌, ◌≢◌, ◌∙◌, ◌<◌, ◌+◌, ◌||◌, ◌==◌, ℕ, zero, suc, List, [], ◌∷◌, ◌++◌, length, get_or, set, take, replicate, length-take, Bool, true, false, sym, ap, subst, refl, inl, inr, arith}
use Rattle.std.specs.List.{AllPairs}
use Rattle.std.proofs.lemmas.Bool.{eq-eqb, eqb-true, or_parts}
use Rattle.std.proofs.lemmas.Bool.Decides.{eqb_tells}
use Rattle.std.proofs.lemmas.List.{get_or-set_other, get_or-set_same, get_or-take, get_or_default, take_more}
use Rattle.std.proofs.lemmas.List.Folds.{Any-from_list_any, list_any-append}
use Rattle.std.proofs.lemmas.List.Quantifiers.{all_pairs_push}
use Rattle.crowd_data.specs.declared.post.Goal.{Goal}
use Rattle.crowd_data.specs.Goals.{IsGoalTable, has_goal_for}

-- no goal is for an agent that has none
pub none_for : (goals : List Goal) (agent k : ℕ) (d : Goal) → has_goal_for goals agent ≡ false → k < length goals → (get_or goals k d).agent ≢ agent
none_for [] agent k d e h same = absurd (omega (arith, h))
none_for (goal ∷ rest) agent zero d e h same =
    let (here, later) = or_parts _ (has_goal_for rest agent) e in let there = eq-eqb goal.agent agent same in cc (here, there)
none_for (goal ∷ rest) agent (suc k) d e h same =
    let (here, later) = or_parts _ (has_goal_for rest agent) e in none_for rest agent k d later (omega (arith, h)) same

-- so one more goal is that agent's only one
pub one_goal_more : (goals : List Goal) (goal : Goal) → AllPairs (λ (g : Goal) (h : Goal). g.agent ≢ h.agent) goals → has_goal_for goals goal.agent ≡ false
    → AllPairs (λ (g : Goal) (h : Goal). g.agent ≢ h.agent) (goals ++ goal ∷ [])
one_goal_more goals goal apart none = all_pairs_push (λ (g : Goal) (h : Goal). g.agent ≢ h.agent) goals goal apart (λ k d h. none_for goals goal.agent k d none h)

-- ---- whether an agent has a goal, after one more

or_true : (b : Bool) → (b || true) ≡ true
or_true true = refl
or_true false = refl

or_false : (b : Bool) → (b || false) ≡ b
or_false true = refl
or_false false = refl

pushed : (goals : List Goal) (goal : Goal) (agent : ℕ) → has_goal_for (goals ++ goal ∷ []) agent ≡ (has_goal_for goals agent || (goal.agent == agent))
pushed goals goal agent =
    list_any-append (λ (g : Goal). g.agent == agent) goals (goal ∷ []) ∙ ap (λ b. has_goal_for goals agent || b) (or_false (goal.agent == agent))

-- a goal more sets the flag of its agent
pub table_set : (flags : List Bool) (goals : List Goal) (goal : Goal) → goal.agent < length flags → IsGoalTable flags goals
    → IsGoalTable (set flags goal.agent true) (goals ++ goal ∷ [])
table_set flags goals goal h table agent =
    elim (eqb_tells goal.agent agent) [
      | inl same ↦
          subst (λ a. get_or (set flags goal.agent true) a false ≡ true) same.1 (get_or-set_same flags goal.agent true false h)
          ∙ sym (pushed goals goal agent ∙ ap (λ b. has_goal_for goals agent || b) same.0 ∙ or_true (has_goal_for goals agent))
      | inr other ↦
          get_or-set_other flags goal.agent agent true false (λ e. other.1 (sym e)) ∙ table agent
          ∙ sym (pushed goals goal agent ∙ ap (λ b. has_goal_for goals agent || b) other.0 ∙ or_false (has_goal_for goals agent))
    ]

false_more : (flags : List Bool) (k : ℕ) → get_or (flags ++ false ∷ []) k false ≡ get_or flags k false
false_more [] zero = refl
false_more [] (suc k) = refl
false_more (flag ∷ flags) zero = refl
false_more (flag ∷ flags) (suc k) = false_more flags k

-- an agent more has no goal
pub table_push : (flags : List Bool) (goals : List Goal) → IsGoalTable flags goals → IsGoalTable (flags ++ false ∷ []) goals
table_push flags goals table agent = false_more flags agent ∙ table agent

-- of no goals
pub table_none : (n : ℕ) → IsGoalTable (replicate n false) []
table_none zero agent = refl
table_none (suc n) zero = refl
table_none (suc n) (suc agent) = table_none n agent

-- one goal more, in the midst of a list
pub table_more : (flags : List Bool) (goals : List Goal) (i : ℕ) (d : Goal) → i < length goals → (get_or goals i d).agent < length flags
    → IsGoalTable flags (take i goals) → IsGoalTable (set flags (get_or goals i d).agent true) (take (i + 1) goals)
table_more flags goals i d h within table =
    subst (λ (gs : List Goal). IsGoalTable (set flags (get_or goals i d).agent true) gs) (sym (take_more goals i d h)) (table_set flags (take i goals) (get_or goals i d) within table)

-- an agent's second goal
pub goal_twice : (goals : List Goal) (i : ℕ) (d : Goal) → i < length goals → has_goal_for (take i goals) (get_or goals i d).agent ≡ true
    → AllPairs (λ (g : Goal) (h : Goal). g.agent ≢ h.agent) goals → ⊥
goal_twice goals i d h has apart =
    let (k, x, within, is, same) = Any-from_list_any (λ (g : Goal). g.agent == (get_or goals i d).agent) (take i goals) has in
    let before : k < i = omega (arith, length-take i goals) in
    let e = sym (get_or-take i goals k x before) ∙ is in
    apart k i x before h (ap (λ (g : Goal). g.agent) e ∙ eqb-true x.agent (get_or goals i d).agent same ∙ ap (λ (g : Goal). g.agent) (get_or_default goals i d x h))

-- an agent's first goal
pub goal_once : (goals : List Goal) (i : ℕ) (d : Goal) → i < length goals → has_goal_for (take i goals) (get_or goals i d).agent ≡ false
    → AllPairs (λ (g : Goal) (h : Goal). g.agent ≢ h.agent) (take i goals) → AllPairs (λ (g : Goal) (h : Goal). g.agent ≢ h.agent) (take (i + 1) goals)
goal_once goals i d h none apart =
    subst (AllPairs (λ (g : Goal) (h : Goal). g.agent ≢ h.agent)) (sym (take_more goals i d h)) (one_goal_more (take i goals) (get_or goals i d) apart none)
