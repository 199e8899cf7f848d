-- What holds of a whole list holds where one item after another is added.
use Rattle.std.proofs.Common.{◌≡◌, ◌≢◌, ◌<◌, ◌≤◌, ◌-◌, ◌==◌, ℕ, List, [], ◌∷◌, ◌++◌, length, length-append, get_or, true, false, sym, subst, refl, arith}
use Rattle.std.specs.List.{All, AllPairs}
use Rattle.std.proofs.lemmas.Bool.{le-leb, ne_eqb}
use Rattle.std.proofs.lemmas.List.{get_or_append_left}
use Rattle.std.proofs.lemmas.List.Folds.{list_any_none}
use Rattle.std.proofs.lemmas.Option.{slice_get-get_or}
use Rattle.std.proofs.Math.Seq.{get_or-append_seam}
use Rattle.crowd_data.specs.declared.post.ScriptPost.{ScriptPost}
use Rattle.crowd_data.specs.declared.post.Goal.{Goal}
use Rattle.crowd_data.specs.Goals.{has_goal_for}
use Rattle.scenario_read.specs.PostRecord.{keeps_order, last_post}

module _ {A : Type 0} (done : List A) (x : A) (later : List A) where
  -- there is one item more than those so far
  pub some_more : length done < length (done ++ x ∷ later)
  some_more = omega (arith, length-append done (x ∷ later))

  -- of each item, so of the next
  pub next_one : (P : A → Type 0) → All P (done ++ x ∷ later) → P x
  next_one P all = subst P (get_or-append_seam done x later x) (all (length done) x some_more)

  -- of each two, so of one before and the next
  pub next_pair : (R : A → A → Type 0) → AllPairs R (done ++ x ∷ later) → (k : ℕ) (d : A) → k < length done → R (get_or done k d) x
  next_pair R all k d h =
      subst (λ y. R (get_or done k d) y) (get_or-append_seam done x later d)
      (subst (λ y. R y (get_or (done ++ x ∷ later) (length done) d)) (get_or_append_left done (x ∷ later) d k h) (all k (length done) d h some_more))

-- the order of posts
pub next_keeps_order : (done : List ScriptPost) (x : ScriptPost) (later : List ScriptPost) → AllPairs (λ (p : ScriptPost) (q : ScriptPost). p.frame ≤ q.frame) (done ++ x ∷ later)
    → keeps_order (last_post done) x.frame ≡ true
next_keeps_order [] x later order = refl
next_keeps_order (first ∷ rest) x later order =
    let last : length (first ∷ rest) - 1 < length (first ∷ rest) = omega arith in
    let below = next_pair (first ∷ rest) x later (λ (p : ScriptPost) (q : ScriptPost). p.frame ≤ q.frame) order (length (first ∷ rest) - 1) first last in
    subst (λ o. keeps_order o x.frame ≡ true) (sym (slice_get-get_or (first ∷ rest) (length (first ∷ rest) - 1) first last)) (le-leb _ _ below)

-- no goal before is for the same agent
pub next_is_only : (done : List Goal) (x : Goal) (later : List Goal) → AllPairs (λ (g : Goal) (h : Goal). g.agent ≢ h.agent) (done ++ x ∷ later)
    → has_goal_for done x.agent ≡ false
next_is_only done x later apart =
    list_any_none (λ (goal : Goal). goal.agent == x.agent) done
    (λ k d h. ne_eqb _ _ (next_pair done x later (λ (g : Goal) (h : Goal). g.agent ≢ h.agent) apart k d h))
