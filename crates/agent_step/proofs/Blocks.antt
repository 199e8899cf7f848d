-- Wall segments by blocks: what lies out of reach, and that the order of segments changes nothing.
use Rattle.std.proofs.Common.{◌≡◌, ◌∙◌, ◌⊎◌, ⊎_elim, ◌+◌, ◌-◌, ◌*◌, ◌<◌, ◌≤◌, ◌++◌, ℕ, Bool, true, false, cond, List, [], ◌∷◌, length, map, drop, slice_index_or, refl, sym, ap, subst, arith, drop-drop, take-append-drop, ℤ, pos, ◌+ℤ◌, ◌-ℤ◌, ◌≤ℤ◌, ◌<ℤ◌, int_le, int_lt}
use Rattle.std.specs.Int.{int_min, int_max}
use Rattle.std.specs.List.{All, filter}
use Rattle.std.specs.List.Sorted.{IsPermutation}
use Rattle.std.proofs.lemmas.Bool.{cases_lt}
use Rattle.std.proofs.lemmas.Int.{ints}
use Rattle.std.proofs.lemmas.List.{get_or_append_left, get_or_push, length-drop, length-take, map-append}
use Rattle.std.proofs.lemmas.List.Elements.{All-cons, All-head, All-nil, All-tail, filter-append}
use Rattle.std.proofs.lemmas.List.Sorted.{All-permutation}
use Rattle.exact_algebra.proofs.Tests.{both_of, le_true}
use Rattle.fixed_vec.specs.declared.vector.V2.{V2}
use Rattle.fixed_vec.specs.HalfPlane.{Plane}
use Rattle.crowd_data.specs.declared.agent.Agent.{Agent}
use Rattle.crowd_data.specs.declared.segment.Segment.{Segment}
use Rattle.crowd_data.specs.Walls.{in_reach, is_between, reach_of}
use Rattle.agent_step.specs.declared.extent.Extent.{Extent}
use Rattle.agent_step.specs.WallBlocks.{IsAround, block_at, no_extent}

-- what holds of the boxes so far and of one more holds of all
pub each_more : (P : ℕ → Extent → Type 0) (boxes : List Extent) (count : ℕ) (new : Extent) → length boxes ≡ count → ((k : ℕ) → k < count → P k (slice_index_or boxes k no_extent)) → P count new
    → (k : ℕ) → k < count + 1 → P k (slice_index_or (boxes ++ new ∷ []) k no_extent)
each_more P boxes count new e all here k h = ⊎_elim
    (λ less. rw (get_or_append_left boxes (new ∷ []) no_extent k (omega arith)) (all k less))
    (λ last. let same : count ≡ k = omega arith in subst (λ j. P j (slice_index_or (boxes ++ new ∷ []) j no_extent)) same (rw (get_or_push boxes new no_extent count e) here))
    (cases_lt k count)

-- ---- out of reach

below_least : (l a b : ℤ) → l ≤ℤ a → l ≤ℤ b → l ≤ℤ int_min a b
below_least l a b h k = by (int_lt b a)
  where
    by : (t : Bool) → l ≤ℤ cond t b a
    by true = k
    by false = h

above_greatest : (u a b : ℤ) → a ≤ℤ u → b ≤ℤ u → int_max a b ≤ℤ u
above_greatest u a b h k = by (int_lt b a)
  where
    by : (t : Bool) → cond t a b ≤ℤ u
    by true = h
    by false = k

between : (z a b grown low high : ℤ) → low ≤ℤ a → low ≤ℤ b → a ≤ℤ high → b ≤ℤ high → is_between z a b grown ≡ true → (low ≤ℤ (z +ℤ grown)) × ((z -ℤ grown) ≤ℤ high)
between z a b grown low high la lb ha hb t =
    let both = both_of (int_le (int_min a b -ℤ grown) z) (int_le z (int_max a b +ℤ grown)) t in
    let m = below_least low a b la lb in
    let n = above_greatest high a b ha hb in
    let e : (int_min a b -ℤ grown) ≤ℤ z = le_true (int_min a b -ℤ grown) z both.0 in
    let f : z ≤ℤ (int_max a b +ℤ grown) = le_true z (int_max a b +ℤ grown) both.1 in
    (omega (arith, ints, m, e), omega (arith, ints, n, f))

-- a segment in a box that is apart from what the agent reaches is out of its reach
pub out_of_reach : (at : V2) (agent : Agent) (reached box : Extent) (segment : Segment)
    → reached.low.x ≡ at.x -ℤ pos (reach_of agent) → reached.high.x ≡ at.x +ℤ pos (reach_of agent) → reached.low.y ≡ at.y -ℤ pos (reach_of agent) → reached.high.y ≡ at.y +ℤ pos (reach_of agent)
    → (reached.high.x <ℤ box.low.x) ⊎ (box.high.x <ℤ reached.low.x) ⊎ (reached.high.y <ℤ box.low.y) ⊎ (box.high.y <ℤ reached.low.y)
    → IsAround box segment → in_reach at agent segment ≡ false
out_of_reach at agent reached box segment left right below above apart around = by (in_reach at agent segment) refl
  where
    never : in_reach at agent segment ≡ true → ⊥
    never t =
        let both = both_of (is_between at.x segment.a.x segment.b.x (pos (reach_of agent))) (is_between at.y segment.a.y segment.b.y (pos (reach_of agent))) t in
        let x = between at.x segment.a.x segment.b.x (pos (reach_of agent)) box.low.x box.high.x around.low_a.x around.low_b.x around.high_a.x around.high_b.x both.0 in
        let y = between at.y segment.a.y segment.b.y (pos (reach_of agent)) box.low.y box.high.y around.low_a.y around.low_b.y around.high_a.y around.high_b.y both.1 in
        ⊎_elim (λ h. absurd (omega (arith, ints, h, x.0, right)))
        (λ rest. ⊎_elim (λ h. absurd (omega (arith, ints, h, x.1, left)))
        (λ rest. ⊎_elim (λ h. absurd (omega (arith, ints, h, y.0, above))) (λ h. absurd (omega (arith, ints, h, y.1, below))) rest) rest)
        apart

    by : (t : Bool) → in_reach at agent segment ≡ t → t ≡ false
    by true e = absurd (never e)
    by false e = refl

-- ---- block by block

module _ (f : Segment → Plane) (q : Segment → Bool) (segments : List Segment) where
  abbrev pub planes_from : ℕ → List Plane
  planes_from k = map f (filter q (drop (16 * k) segments))

  abbrev pub planes_in : ℕ → List Plane
  planes_in k = map f (filter q (block_at segments k))

  pub by_block : (k : ℕ) → planes_from k ≡ planes_in k ++ planes_from (k + 1)
  by_block k =
      let rest : drop 16 (drop (16 * k) segments) ≡ drop (16 * (k + 1)) segments = drop-drop 16 (16 * k) segments ∙ ap (λ n. drop n segments) {x = 16 * k + 16} {y = 16 * (k + 1)} (omega arith) in
      let whole : drop (16 * k) segments ≡ block_at segments k ++ drop (16 * (k + 1)) segments =
      sym (take-append-drop 16 (drop (16 * k) segments)) ∙ ap (λ (l : List Segment). block_at segments k ++ l) rest in
      ap (λ (l : List Segment). map f (filter q l)) whole ∙ ap (map f) (filter-append q (block_at segments k) (drop (16 * (k + 1)) segments))
      ∙ map-append f (filter q (block_at segments k)) (filter q (drop (16 * (k + 1)) segments))

none_kept : (q : Segment → Bool) (segments : List Segment) → All (λ s. q s ≡ false) segments → filter q segments ≡ []
none_kept q [] all = refl
none_kept q (s ∷ rest) all =
    let e = All-head (λ s. q s ≡ false) s rest all in
    ap (λ t. cond t (s ∷ filter q rest) (filter q rest)) e ∙ none_kept q rest (All-tail (λ s. q s ≡ false) s rest all)

-- a block out of reach gives no half-plane
pub none_in : (f : Segment → Plane) (q : Segment → Bool) (segments : List Segment) (k : ℕ) → All (λ s. q s ≡ false) (block_at segments k)
    → planes_from f q segments k ≡ planes_from f q segments (k + 1)
none_in f q segments k all =
    by_block f q segments k ∙ ap (λ (l : List Segment). map f l ++ planes_from f q segments (k + 1)) (none_kept q (block_at segments k) all)

pub length-block_at : (segments : List Segment) (k : ℕ) → length (block_at segments k) ≤ length segments - 16 * k
length-block_at segments k = omega (arith, length-take 16 (drop (16 * k) segments), length-drop (16 * k) segments)

pub length-block_at-few : (segments : List Segment) (k : ℕ) → length (block_at segments k) ≤ 16
length-block_at-few segments k = omega (arith, length-take 16 (drop (16 * k) segments))

-- ---- the order of segments

module _ (f : Segment → Plane) (q : Segment → Bool) (P : Plane → Type 0) where
  -- where P holds of the half-planes of the segments that pass, it holds of each that passes, and back
  abbrev Passes : Segment → Type 0
  Passes s = q s ≡ true → P (f s)

  each_passes : (segments : List Segment) → All P (map f (filter q segments)) → All Passes segments
  each_passes [] all = All-nil Passes
  each_passes (s ∷ rest) all = by (λ h. each_passes rest h) (q s) refl all
    where
      by : (All P (map f (filter q rest)) → All Passes rest) → (t : Bool) → q s ≡ t → All P (map f (cond t (s ∷ filter q rest) (filter q rest))) → All Passes (s ∷ rest)
      by more true e all = All-cons Passes s rest (λ _. All-head P (f s) (map f (filter q rest)) all) (more (All-tail P (f s) (map f (filter q rest)) all))
      by more false e all = All-cons Passes s rest (λ t. absurd (let w : true ≡ false = sym t ∙ e in cc)) (more all)

  all_pass : (segments : List Segment) → All Passes segments → All P (map f (filter q segments))
  all_pass [] all = All-nil P
  all_pass (s ∷ rest) all = by (q s) refl (all_pass rest (All-tail Passes s rest all))
    where
      by : (t : Bool) → q s ≡ t → All P (map f (filter q rest)) → All P (map f (cond t (s ∷ filter q rest) (filter q rest)))
      by true e more = All-cons P (f s) (map f (filter q rest)) (All-head Passes s rest all e) more
      by false e more = more

  pub all_in_any_order : (a b : List Segment) → IsPermutation a b → All P (map f (filter q a)) → All P (map f (filter q b))
  all_in_any_order a b p all = all_pass b (All-permutation Passes a b p (each_passes a all))
