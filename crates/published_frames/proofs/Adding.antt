-- The exchange that adds an entry keeps the rule of the log.
use Rattle.std.proofs.Common.{◌≡◌, ℕ, ◌+◌, ◌<◌, ◌==◌, Bool, true, false, List, [], ◌∷◌, ◌++◌, length, refl, ap, sym, subst, arith, inl, length-append, None}
use Rattle.std.proofs.lemmas.List.{append-nil}
use Rattle.std.proofs.lemmas.Bool.Decides.{nat_tests}
use mathlib.Core.List.{IsPrefix}
use prog.Atomic.{either}
use Rattle.logbook.specs.Pages.{Cell, cell, keeps, no_nib, step, Moves, Goes}
use Rattle.published_frames.specs.declared.entry.Entry.{Entry}
use Rattle.published_frames.specs.Log.{AddsEntry, IsCounted}
use Rattle.published_frames.proofs.Prefixes.{prefix_whole}

abbrev pub none_shown : List Entry → List Entry
none_shown log = []

abbrev pub any_move : List Entry → List Entry → ℕ → Type 0
any_move before after answer = Unit {0}

adds_goes : (log seen : List Entry) (entry : Entry) (old : ℕ) → length seen ≡ old → IsPrefix seen log
    → (same : Bool) → (length log == old) ≡ same
    → Goes IsCounted none_shown any_move 0 (seen, (no_nib, None)) (λ n. either (n == old) (old + 1) n) (AddsEntry (step 0 old (old + 1) entry) (seen, (no_nib, None))) ((length log, true) ∷ (0, true) ∷ []) log
adds_goes log seen entry old len begins true is =
    let here : length log ≡ old = grind (arith, nat_tests) in
    let whole : seen ≡ log = prefix_whole seen log begins (omega arith) in
    let n : either (length log == old) (old + 1) (length log) ≡ length (log ++ entry ∷ []) = rw is (omega (arith, length-append log (entry ∷ []))) in (
      keeps,
      entry ∷ [],
      None,
      tt,
      record { words = ap (λ (k : ℕ). (k, true) ∷ (0, true) ∷ []) n },
      inl (refl, refl),
      rw is (ap (λ w. w ++ entry ∷ []) (sym whole)),
    )
adds_goes log seen entry old len begins false is =
    let all : log ++ [] ≡ log = append-nil log in
    let n : either (length log == old) (old + 1) (length log) ≡ length (log ++ []) = rw is (ap length (sym all)) in (
      keeps,
      [],
      None,
      tt,
      record { words = ap (λ (k : ℕ). (k, true) ∷ (0, true) ∷ []) n },
      inl (refl, refl),
      rw is (ap length all),
    )

-- whatever the log is, the exchange adds the entry to all that was seen, or finds that the log is longer
pub adds_entry : (seen : List Entry) (entry : Entry) (old : ℕ) → length seen ≡ old
    → Moves IsCounted none_shown any_move 0 (seen, (no_nib, None)) (λ n. either (n == old) (old + 1) n) (AddsEntry (step 0 old (old + 1) entry) (seen, (no_nib, None)))
adds_entry seen entry old len cells log kept begins away =
    let P : List Cell → Type 0
    = λ c. (0 < length c) × ((cell c 0).1 ≡ true)
    × Goes IsCounted none_shown any_move 0 (seen, (no_nib, None)) (λ n. either (n == old) (old + 1) n) (AddsEntry (step 0 old (old + 1) entry) (seen, (no_nib, None))) c log in
    subst P (sym kept.words) (omega arith, refl, adds_goes log seen entry old len begins (length log == old) refl)
