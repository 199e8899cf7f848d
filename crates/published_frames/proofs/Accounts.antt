-- What a longer log tells.
use Rattle.std.proofs.Common.{◌≡◌, ◌+◌, ◌≤◌, true, List, [], ◌∷◌, ◌++◌, length, refl, ap, sym, ◌∙◌, subst, arith, append_assoc, length-append, ⊎_elim, inl, inr, ◌⊎◌, true≢false}
use Rattle.std.proofs.lemmas.List.{append-nil}
use mathlib.Core.List.{IsPrefix}
use Rattle.crowd_data.specs.declared.frame.Moves.{Moves}
use Rattle.published_frames.specs.declared.entry.Step.{Step}
use Rattle.published_frames.specs.declared.entry.Entry.{Entry}
use Rattle.published_frames.specs.declared.entry.Entry.TheVariants.{Start, Attempt, Success}
use Rattle.published_frames.specs.History.{StartsWith, step_of}
use Rattle.published_frames.specs.Log.{Account, after_entry, after_entries, no_account, account_of, published_in, attempted_in, is_settled, scenario_in}
use Rattle.published_frames.proofs.Prefixes.{prefix_shorter}

-- ---- histories that begin with one another

pub starts_itself : (history : List Step) → StartsWith history history
starts_itself history = ([], sym (append-nil history))

pub starts_trans : (a b c : List Step) → StartsWith a b → StartsWith b c → StartsWith a c
starts_trans a b c p q = (q.0 ++ p.0, p.1 ∙ (ap (λ l. l ++ p.0) q.1 ∙ append_assoc c q.0 p.0))

-- ---- what is published is never taken back

after_entries-append : (told : Account) (xs ys : List Entry) → after_entries told (xs ++ ys) ≡ after_entries (after_entries told xs) ys
after_entries-append told [] ys = refl
after_entries-append told (x ∷ xs) ys = after_entries-append (after_entry told x) xs ys

grows : (log : List Entry) (told : Account) → StartsWith told.attempted told.published
    → StartsWith (after_entries told log).published told.published × StartsWith (after_entries told log).attempted told.published
grows [] told begins = (starts_itself told.published, begins)
grows (Attempt step ∷ log) told begins = grows log (after_entry told (Attempt step)) (step ∷ [], refl)
grows (Success ∷ log) told begins =
    let rest = grows log (after_entry told Success) (starts_itself told.attempted) in (
      starts_trans (after_entries (after_entry told Success) log).published told.attempted told.published rest.0 begins,
      starts_trans (after_entries (after_entry told Success) log).attempted told.attempted told.published rest.1 begins,
    )
grows (Start scenario ∷ log) told begins =
    let rest = grows log (after_entry told (Start scenario)) (starts_itself told.attempted) in (
      starts_trans (after_entries (after_entry told (Start scenario)) log).published told.attempted told.published rest.0 begins,
      starts_trans (after_entries (after_entry told (Start scenario)) log).attempted told.attempted told.published rest.1 begins,
    )

-- what was attempted begins with what is published
attempted_later : (log : List Entry) (told : Account) → StartsWith told.attempted told.published → StartsWith (after_entries told log).attempted (after_entries told log).published
attempted_later [] told begins = begins
attempted_later (Attempt step ∷ log) told begins = attempted_later log (after_entry told (Attempt step)) (step ∷ [], refl)
attempted_later (Success ∷ log) told begins = attempted_later log (after_entry told Success) (starts_itself told.attempted)
attempted_later (Start scenario ∷ log) told begins = attempted_later log (after_entry told (Start scenario)) (starts_itself told.attempted)

published_grows : (xs ys : List Entry) → IsPrefix xs ys → StartsWith (published_in ys) (published_in xs) × StartsWith (attempted_in ys) (published_in xs)
published_grows xs ys p =
    let e : after_entries (account_of xs) p.0 ≡ account_of ys = sym (after_entries-append no_account xs p.0) ∙ ap account_of p.1 in
    let g = grows p.0 (account_of xs) (attempted_later xs no_account (starts_itself [])) in
    (subst (λ (told : Account). StartsWith told.published (published_in xs)) e g.0, subst (λ (told : Account). StartsWith told.attempted (published_in xs)) e g.1)

-- of two beginnings of one log the shorter has no more that is published
pub published_shorter : (xs ys all : List Entry) → IsPrefix xs all → IsPrefix ys all → length xs ≤ length ys → StartsWith (published_in ys) (published_in xs)
published_shorter xs ys all p q le = (published_grows xs ys (prefix_shorter xs ys all p q le)).0

-- ---- the last entry

-- a list is empty, or has a last entry
by_last : (log : List Entry) → (log ≡ []) ⊎ ((front : List Entry) × (entry : Entry) × (log ≡ front ++ entry ∷ []))
by_last [] = inl refl
by_last (x ∷ xs) = ⊎_elim (λ (t : xs ≡ []). inr ([], x, ap (λ l. x ∷ l) t)) (λ (t : (front : List Entry) × (entry : Entry) × (xs ≡ front ++ entry ∷ [])). inr (x ∷ t.0, t.1, ap (λ l. x ∷ l) t.2)) (by_last xs)

settled_last : (before : List Entry) (entry : Entry) → is_settled (before ++ entry ∷ []) ≡ true → published_in (before ++ entry ∷ []) ≡ attempted_in before
settled_last before (Attempt step) is = absurd (true≢false (sym is ∙ ap (λ (told : Account). told.is_settled) (after_entries-append no_account before (Attempt step ∷ []))))
settled_last before (Start scenario) is = ap (λ (told : Account). told.published) (after_entries-append no_account before (Start scenario ∷ []))
settled_last before Success is = ap (λ (told : Account). told.published) (after_entries-append no_account before (Success ∷ []))

shorter_or_same : (before x all : List Entry) (entry : Entry) → IsPrefix (before ++ entry ∷ []) all → IsPrefix x all → length before ≤ length x → (x ≡ before) ⊎ IsPrefix (before ++ entry ∷ []) x
shorter_or_same [] [] all entry p q le = inl refl
shorter_or_same [] (y ∷ x) [] entry p q le = absurd (cc (q.1))
shorter_or_same [] (y ∷ x) (z ∷ all) entry p q le = inr (x, cc (p.1, q.1))
shorter_or_same (b ∷ before) [] all entry p q le = absurd (omega arith)
shorter_or_same (b ∷ before) (y ∷ x) [] entry p q le = absurd (cc (q.1))
shorter_or_same (b ∷ before) (y ∷ x) (z ∷ all) entry p q le =
    let heads : b ≡ y = cc (p.1, q.1) in
    ⊎_elim (λ (t : x ≡ before). inl (cc (heads, t))) (λ (t : IsPrefix (before ++ entry ∷ []) x). inr (t.0, cc (heads, t.1)))
    (shorter_or_same before x all entry (p.0, cc (p.1)) (q.0, cc (q.1)) (omega arith))

reaches_settled : (before x all : List Entry) (entry : Entry) → IsPrefix (before ++ entry ∷ []) all → IsPrefix x all → length before ≤ length x → is_settled (before ++ entry ∷ []) ≡ true
    → StartsWith (attempted_in x) (published_in (before ++ entry ∷ []))
reaches_settled before x all entry p q le settled =
    ⊎_elim (λ (t : x ≡ before). subst (λ (h : List Step). StartsWith (attempted_in x) h) (ap attempted_in t ∙ sym (settled_last before entry settled)) (starts_itself (attempted_in x)))
    (λ (t : IsPrefix (before ++ entry ∷ []) x). (published_grows (before ++ entry ∷ []) x t).1)
    (shorter_or_same before x all entry p q le)

-- of two beginnings of one log the first is settled, and longer by one entry at most: what the second attempted has all
-- that the first published
pub attempted_reaches : (xs ys all : List Entry) → IsPrefix xs all → IsPrefix ys all → length xs ≤ length ys + 1 → is_settled xs ≡ true → StartsWith (attempted_in ys) (published_in xs)
attempted_reaches xs ys all p q le settled =
    ⊎_elim (λ (t : xs ≡ []). subst (λ (log : List Entry). StartsWith (attempted_in ys) (published_in log)) (sym t) (attempted_in ys, refl))
    (λ (t : (front : List Entry) × (entry : Entry) × (xs ≡ front ++ entry ∷ [])).
    let len : length t.0 ≤ length ys = (let a = length-append t.0 (t.1 ∷ []) in let b = ap length t.2 in omega arith) in
    subst (λ (log : List Entry). StartsWith (attempted_in ys) (published_in log)) (sym t.2)
    (reaches_settled t.0 ys all t.1 (subst (λ (log : List Entry). IsPrefix log all) t.2 p) q len (subst (λ (log : List Entry). is_settled log ≡ true) t.2 settled)))
    (by_last xs)

-- ---- a log with an entry more

pub published_in_attempt : (log : List Entry) (moves : Moves) → published_in (log ++ Attempt (step_of moves) ∷ []) ≡ published_in log
published_in_attempt log moves = ap (λ (told : Account). told.published) (after_entries-append no_account log (Attempt (step_of moves) ∷ []))

pub attempted_in_attempt : (log : List Entry) (moves : Moves) → attempted_in (log ++ Attempt (step_of moves) ∷ []) ≡ published_in log ++ step_of moves ∷ []
attempted_in_attempt log moves = ap (λ (told : Account). told.attempted) (after_entries-append no_account log (Attempt (step_of moves) ∷ []))

pub scenario_in_attempt : (log : List Entry) (moves : Moves) → scenario_in (log ++ Attempt (step_of moves) ∷ []) ≡ scenario_in log
scenario_in_attempt log moves = ap (λ (told : Account). told.scenario) (after_entries-append no_account log (Attempt (step_of moves) ∷ []))

pub published_in_success : (log : List Entry) → published_in (log ++ Success ∷ []) ≡ attempted_in log
published_in_success log = ap (λ (told : Account). told.published) (after_entries-append no_account log (Success ∷ []))

pub is_settled_success : (log : List Entry) → is_settled (log ++ Success ∷ []) ≡ true
is_settled_success log = ap (λ (told : Account). told.is_settled) (after_entries-append no_account log (Success ∷ []))

pub scenario_in_success : (log : List Entry) → scenario_in (log ++ Success ∷ []) ≡ scenario_in log
scenario_in_success log = ap (λ (told : Account). told.scenario) (after_entries-append no_account log (Success ∷ []))
