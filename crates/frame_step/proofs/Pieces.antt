-- Bodies of the agents of pieces.
use Rattle.std.proofs.Common.{◌≡◌, ℕ, suc, ◌+◌, ◌*◌, ◌/◌, ◌<◌, ◌≤◌, List, [], ◌∷◌, ◌++◌, length, get_or, slice_index_or, refl, subst, sym, arith, ⊎_elim, eq-zero-or-pos}
use Rattle.std.specs.List.{All}
use Rattle.std.proofs.lemmas.Bool.{cases_lt}
use Rattle.std.proofs.lemmas.List.{get_or_append_left, get_or_default, get_or_push, length_push}
use native.Mathlib.Decide.{ℕ_discrete}
use mathlib.Core.Logic.{dite}
use Rattle.crowd_data.specs.declared.frame.Body.{Body}
use Rattle.agent_step.specs.Frozen.{FrozenState}
use Rattle.work_claim.specs.Counts.{IsEachOnce, occurrences}
use Rattle.work_claim.proofs.Sums.{occurrences_append, occurrences_other}
use Rattle.frame_step.specs.Moved.{AreAllMoved, CoversMoved, IsPieceMoved, KeepsMoved}

-- what is counted stands at some place
found_at : (x : ℕ) (xs : List ℕ) → 0 < occurrences x xs → (k : ℕ) × (k < length xs) × (get_or xs k 0 ≡ x)
found_at x [] some = absurd (omega arith)
found_at x (y ∷ ys) some = dite (ℕ_discrete x y) (λ e. (0, omega arith, sym e))
    (λ ne. let z = occurrences_other x y ne in let r = found_at x ys (omega arith) in (suc r.0, (let l = r.1 in omega arith), r.2))

module _ (state : FrozenState) where
  -- a piece stays moved
  piece_keeps : (old new : List Body) → length new ≡ length old → KeepsMoved state old new → (piece : ℕ) → IsPieceMoved state old piece → IsPieceMoved state new piece
  piece_keeps old new count keeps piece moved who low high inside = keeps who (moved who low high (omega (arith, inside, count)))

  -- one more piece of a list is moved
  pub next_piece : (pieces : List ℕ) (i d : ℕ) (old new : List Body) → i < length pieces → length new ≡ length old → IsPieceMoved state new (slice_index_or pieces i d) → KeepsMoved state old new
      → ((k e : ℕ) → k < i → IsPieceMoved state old (slice_index_or pieces k e)) → (k e : ℕ) → k < i + 1 → IsPieceMoved state new (slice_index_or pieces k e)
  next_piece pieces i d old new h count here keeps before k e below = ⊎_elim
      (λ less. piece_keeps old new count keeps (slice_index_or pieces k e) (before k e less))
      (λ last. let same : i ≡ k = omega arith in subst (λ n. IsPieceMoved state new (slice_index_or pieces n e)) same (subst (IsPieceMoved state new) (get_or_default pieces i d e h) here))
      (cases_lt k i)

  -- a list of moved pieces is one longer
  pub more_pieces : (pieces : List ℕ) (piece : ℕ) (old new : List Body) → length new ≡ length old → All (IsPieceMoved state old) pieces → IsPieceMoved state new piece → KeepsMoved state old new
      → All (IsPieceMoved state new) (pieces ++ piece ∷ [])
  more_pieces pieces piece old new count all here keeps k d h =
      let long = length_push pieces piece in
      ⊎_elim
      (λ less. subst (IsPieceMoved state new) (sym (get_or_append_left pieces (piece ∷ []) d k less)) (piece_keeps old new count keeps (slice_index_or pieces k d) (all k d less)))
      (λ last. let same : length pieces ≡ k = omega (arith, long, h, last) in
      subst (λ n. IsPieceMoved state new (slice_index_or (pieces ++ piece ∷ []) n d)) same (subst (IsPieceMoved state new) (sym (get_or_push pieces piece d (length pieces) refl)) here))
      (cases_lt k (length pieces))

  -- where the pieces of a list are moved, their agents are
  pub pieces_cover : (pieces : List ℕ) (bodies : List Body) → All (IsPieceMoved state bodies) pieces → CoversMoved state pieces bodies
  pieces_cover pieces bodies all who h some =
      let r = found_at (who / 32) pieces some in
      let p : IsPieceMoved state bodies (who / 32) = subst (IsPieceMoved state bodies) r.2 (all r.0 0 r.1) in
      p who (omega arith) (omega arith) h

  -- the agents of two lists of pieces
  pub covers_more : (before more : List ℕ) (old new : List Body) → length new ≡ length old → CoversMoved state before old → CoversMoved state more new → KeepsMoved state old new
      → CoversMoved state (before ++ more) new
  covers_more before more old new count covers here keeps who h some =
      let sum = occurrences_append (who / 32) before more in
      ⊎_elim (λ (e : occurrences (who / 32) before ≡ 0). here who h (omega arith))
      (λ (e : 0 < occurrences (who / 32) before). keeps who (covers who (omega (arith, count, h)) e)) (eq-zero-or-pos (occurrences (who / 32) before))

  -- where each piece was drawn once, all agents are
  pub all_covered : (count : ℕ) (pieces : List ℕ) (bodies : List Body) → length bodies ≡ length state.scenario.agents → length bodies ≤ count * 32 → IsEachOnce count pieces → CoversMoved state pieces bodies
      → AreAllMoved state bodies
  all_covered count pieces bodies full enough once covers =
      record { count = full; each = λ who h. covers who h (let one = once.below (who / 32) (omega arith) in omega arith) }
