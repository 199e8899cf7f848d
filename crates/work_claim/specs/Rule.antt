-- What the counter and its seats know.
use Rattle.std.specs.Prelude.{◌≡◌, ℕ, ◌+◌, ◌*◌, ◌^◌, ◌<◌, ◌≤◌, true, false, [], length, slice_index}
use mathlib.Core.Option.{some}
use lib.ListN.{get_elem?}
use Rattle.atomic_table.specs.Table.{State}
use Rattle.work_claim.specs.Counts.{occurrences, total}
use Rattle.work_claim.specs.Views.{all_parts, most_claimers}
use Rattle.work_claim.specs.declared.view.RoundView.{RoundView}

-- the most draws of a round that find no more: two for each part
abbrev pub most_ends : ℕ
most_ends = 130

-- what one seat knows, where the counter is `count`, was `start` when the round began, and `begun` rounds were begun
pub record Fits (size start begun count : ℕ) (v : RoundView) : Type 0 where
  pub idle : v.parts ≡ 0 → (v.drawn ≡ []) × (v.ends ≡ 0)
  pub same : 0 < v.parts → (v.first ≡ start) × (v.pieces ≡ size)
  pub few_ends : v.ends ≤ 2 * v.parts
  pub few_own : v.own_ends ≤ 2
  pub claimer : v.is_root ≡ false → v.ends ≤ v.own_ends
  pub ended : 0 < v.ends → start + size ≤ count
  pub root : v.is_root ≡ true → (v.rounds ≡ begun) × (v.lent ≤ most_claimers) × (all_parts ≤ v.parts + v.lent) × (v.ends + most_ends ≤ 2 * (v.parts + v.lent) + v.own_ends)

-- the counter counts all draws. Each number of the round that it has passed stands in the view of one seat, once
pub record IsKept (size : ℕ) {S : Type 0} (s : State S RoundView) : Type 0 where
  pub start : ℕ
  pub begun : ℕ
  pub small : size < 2 ^ 32
  pub few_rounds : begun ≤ 2 ^ 31
  pub few_draws : start ≤ begun * (size + most_ends)
  pub one_word : length s.words ≡ 1
  pub low : start ≤ slice_index s.words 0
  pub high : slice_index s.words 0 ≤ start + size + total (λ v. v.ends) s.views
  pub few_numbers : total (λ v. length v.drawn) s.views ≤ size
  pub numbers : start + total (λ v. length v.drawn) s.views ≤ slice_index s.words 0
  pub parts : total (λ v. v.parts) s.views ≡ all_parts
  pub once : (x : ℕ) → x < size → start + x < slice_index s.words 0 → total (λ v. occurrences x v.drawn) s.views ≡ 1
  pub not_yet : (x : ℕ) → slice_index s.words 0 ≤ start + x → total (λ v. occurrences x v.drawn) s.views ≡ 0
  pub beyond : (x : ℕ) → size ≤ x → total (λ v. occurrences x v.drawn) s.views ≡ 0
  pub each : (id : ℕ) (v : RoundView) → get_elem? s.views id ≡ some v → Fits size start begun (slice_index s.words 0) v
