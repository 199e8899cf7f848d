-- The frames behind a frame, summed up one after another.
use Rattle.std.proofs.Common.{◌≡◌, ◌≤◌, ◌+◌, ◌-◌, ◌++◌, List, [], ◌∷◌, suc, refl, sym, ap, subst, arith, append_assoc, append-nil}
use Rattle.crowd_data.specs.declared.post.Post.{Post}
use Rattle.crowd_data.specs.Run.{Follow, IsNext, Snapshot, script_of, scripts_from, start_of}
use Rattle.crowd_data.specs.Scenario.{Parts}
use Rattle.run_summary.specs.Summary.{IsSummary, Tally, last_of, line_of, tally_of}
use Rattle.orca_cli.specs.Behind.{SumsUp, scripts_behind}

-- the last of frames to which one is added
last_of-push : (first next : Snapshot) (done : List Snapshot) → last_of first (done ++ next ∷ []) ≡ next
last_of-push first next [] = refl
last_of-push first next (frame ∷ done) = last_of-push frame next done

module _ (scenario : Parts) (first : Snapshot) where
  -- the frames so far, with those behind the present one, are those behind the first one
  abbrev pub IsSoFar : Snapshot → Tally → Type 0
  IsSoFar present tally =
      (done : List Snapshot) × ((rest : List Snapshot) → Follow scenario present (scripts_behind scenario present) rest → Follow scenario first (scripts_behind scenario first) (done ++ rest))
      × (tally ≡ tally_of done) × (last_of first done ≡ present)

  pub none_yet : IsSoFar first (tally_of [])
  none_yet = ([], (λ rest follow. follow), refl, refl)

  -- one more frame
  follow_more : (before next : Snapshot) (rest : List Snapshot) → IsNext scenario before (script_of scenario (before.number + 1)) next → Follow scenario next (scripts_behind scenario next) rest
      → Follow scenario before (scripts_behind scenario before) (next ∷ rest)
  follow_more before next rest step follow =
      let left : suc (scenario.steps - next.number) ≡ scenario.steps - before.number = omega (arith, step.below, step.number) in
      subst (λ n. Follow scenario before (scripts_from scenario (before.number + 1) n) (next ∷ rest)) left
      (step, subst (λ n. Follow scenario next (scripts_from scenario (n + 1) (scenario.steps - next.number)) rest) step.number follow)

  pub one_more : (before next : Snapshot) (tally more : Tally) (posts : List Post) → posts ≡ script_of scenario (before.number + 1) → IsNext scenario before posts next
      → ((done : List Snapshot) → tally ≡ tally_of done → more ≡ tally_of (done ++ next ∷ [])) → IsSoFar before tally → IsSoFar next more
  one_more before next tally more posts script step counted (done, whole, is, last) =
      let scripted = subst (λ (list : List Post). IsNext scenario before list next) script step in (
        done ++ next ∷ [],
        (λ rest follow.
            subst (Follow scenario first (scripts_behind scenario first)) (sym (append_assoc done (next ∷ []) rest)) (whole (next ∷ rest) (follow_more before next rest scripted follow))),
        counted done is,
        last_of-push first next done,
      )

  -- no frame is left
  pub all_summed : (present : Snapshot) (tally : Tally) → scenario.steps ≤ present.number → IsSoFar present tally → SumsUp scenario first tally present
  all_summed present tally over (done, whole, is, last) =
      let none : 0 ≡ scenario.steps - present.number = omega arith in
      let end : Follow scenario present (scripts_behind scenario present) [] = subst (λ n. Follow scenario present (scripts_from scenario (present.number + 1) n) []) none tt in
      (done, subst (Follow scenario first (scripts_behind scenario first)) (append-nil done) (whole [] end), is, sym last)

-- a whole run
pub run_summed : (scenario : Parts) (first last : Snapshot) (tally : Tally) → first ≡ start_of scenario → SumsUp scenario first tally last → IsSummary scenario (line_of scenario tally last)
run_summed scenario first last tally e (rest, follow, is, end) =
    let number : first.number ≡ 0 = ap (λ (f : Snapshot). f.number) e in
    let from : first.number + 1 ≡ 1 = omega (arith, number) in
    let all : scenario.steps - first.number ≡ scenario.steps = omega (arith, number) in
    let scripted = subst (λ n. Follow scenario first (scripts_from scenario n scenario.steps) rest) from (subst (λ n. Follow scenario first (scripts_from scenario (first.number + 1) n) rest) all follow) in
    (first, rest, (e, scripted), (λ i. line_of scenario (is i) (end i)))
