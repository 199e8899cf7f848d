-- Facts at each place of a list.
use Rattle.std.proofs.Common.{◌≡◌, ◌∙◌, ℕ, ◌+◌, ◌<◌, List, [], ◌∷◌, ◌++◌, length, set, slice_index_or, ap, sym, subst, arith, length-append, length-set}
use Rattle.std.proofs.lemmas.List.{get_or_append_left, get_or-set_same, get_or-set_other}
use mathlib.Core.Logic.{dite}
use native.Mathlib.Decide.{ℕ_discrete}
use Rattle.post_box.proofs.Histories.{at_seam}

-- some item of a list that has one
pub some_item : {A : Type 0} (xs : List A) (place : ℕ) → place < length xs → A
some_item [] place h = absurd (omega arith)
some_item (x ∷ xs) place h = x

-- the item that comes next
pub at_next : {A : Type 0} (all xs : List A) (y : A) (ys : List A) (d : A) → all ≡ xs ++ y ∷ ys → slice_index_or all (length xs) d ≡ y
at_next all xs y ys d e = ap (λ l. slice_index_or l (length xs) d) e ∙ at_seam xs y ys d

pub next_below : {A : Type 0} (all xs : List A) (y : A) (ys : List A) → all ≡ xs ++ y ∷ ys → length xs < length all
next_below all xs y ys e = let a = ap length e in let b = length-append xs (y ∷ ys) in omega arith

-- one more at the end
pub row_more : {A : Type 0} (F : ℕ → A → Type 0) (xs : List A) (y : A) → ((k : ℕ) (d : A) → k < length xs → F k (slice_index_or xs k d)) → F (length xs) y
    → (k : ℕ) (d : A) → k < length (xs ++ y ∷ []) → F k (slice_index_or (xs ++ y ∷ []) k d)
row_more F xs y all here k d l = dite (ℕ_discrete k (length xs))
    (λ e. subst (λ (n : ℕ). F n (slice_index_or (xs ++ y ∷ []) n d)) (sym e) (subst (F (length xs)) (sym (at_seam xs y [] d)) here))
    (λ ne. let m = length-append xs (y ∷ []) in let b : k < length xs = (omega arith) in subst (F k) (sym (get_or_append_left xs (y ∷ []) d k b)) (all k d b))

-- one is replaced, and those before it were
pub row_replaced : {A : Type 0} (G : ℕ → A → Type 0) (xs : List A) (i : ℕ) (y : A) → i < length xs → ((k : ℕ) (d : A) → k < i → G k (slice_index_or xs k d)) → G i y
    → (k : ℕ) (d : A) → k < i + 1 → G k (slice_index_or (set xs i y) k d)
row_replaced G xs i y small before here k d l =
    dite (ℕ_discrete k i)
    (λ is. subst (λ (n : ℕ). G n (slice_index_or (set xs i y) n d)) (sym is) (subst (G i) (sym (get_or-set_same xs i y d small)) here))
    (λ ne. subst (G k) (sym (get_or-set_other xs i k y d ne)) (before k d (omega arith)))

-- those behind it are as they were
pub row_left : {A : Type 0} (F : ℕ → A → Type 0) (xs : List A) (i : ℕ) (y : A) → ((k : ℕ) (d : A) → i < k + 1 → k < length xs → F k (slice_index_or xs k d))
    → (k : ℕ) (d : A) → i + 1 < k + 1 → k < length (set xs i y) → F k (slice_index_or (set xs i y) k d)
row_left F xs i y behind k d after l =
    let m = length-set xs i y in
    let ne : k ≡ i → ⊥ = λ is. omega (arith, is, after) in
    subst (F k) (sym (get_or-set_other xs i k y d ne)) (behind k d (omega (arith, after)) (omega (arith, l, m)))
