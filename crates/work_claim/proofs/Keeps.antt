-- Each step keeps the rule of the counter.
use Rattle.std.proofs.Common.{◌≡◌, ◌≢◌, ℕ, ◌+◌, ◌*◌, ◌-◌, ◌%◌, ◌^◌, ◌<◌, ◌≤◌, Bool, true, false, true≢false, List, [], ◌∷◌, ◌++◌, length, set, slice_index, sym, refl, ap, ◌∙◌, subst, inl, inr, ⊎_elim, arith, length-append, length-set, get_or-set_same, mul-le-mul, mod-eq_of_lt, lt_of_not-le, eq-zero-or-pos}
use mathlib.Core.Option.{none, some}
use mathlib.Core.Logic.{dite}
use native.Mathlib.Decide.{dec_le, ℕ_discrete}
use lib.ListN.{get_elem?}
use lib.Seq.{set-get_or}
use Rattle.atomic_table.specs.Table.{State, Me, step, keeps, Allows, Splits, Joins}
use Rattle.atomic_table.proofs.Lists.{at_set, at_snoc, set_again}
use Rattle.work_claim.specs.declared.view.RoundView.{RoundView}
use Rattle.work_claim.specs.Counts.{IsEachOnce, occurrences, total}
use Rattle.work_claim.specs.Rule.{Fits, IsKept}
use Rattle.work_claim.specs.Steps.{Begins, Draws, Looks}
use Rattle.work_claim.specs.Views.{all_parts, begun, lending, lent, most_claimers, spent, with_claimer}
use Rattle.work_claim.proofs.Sums.{alone, occurrences_append, occurrences_here, occurrences_other, others_none, part_le, total_le, total_set, total_snoc, total_twice}

module _ (size : ℕ) where
  -- what a seat knows stays true as the counter grows
  fits_more : (start rounds count count' : ℕ) (v : RoundView) → count ≤ count' → Fits size start rounds count v → Fits size start rounds count' v
  fits_more start rounds count count' v le f = record { idle = f.idle; same = f.same; few_ends = f.few_ends; few_own = f.few_own; claimer = f.claimer; ended = λ h. (let e = f.ended h in omega arith); root = f.root }

  -- where one view is changed, each seat knows what it must
  each_set : (start rounds count : ℕ) (views : List RoundView) (id : ℕ) (w : RoundView) → Fits size start rounds count w
      → ((j : ℕ) (u : RoundView) → j ≢ id → get_elem? views j ≡ some u → Fits size start rounds count u)
      → (j : ℕ) (u : RoundView) → get_elem? (set views id w) j ≡ some u → Fits size start rounds count u
  each_set start rounds count views id w mine others j u at =
      ⊎_elim (λ (t : (j ≡ id) × (w ≡ u)). subst (Fits size start rounds count) t.1 mine)
      (λ (t : (j ≢ id) × (get_elem? views j ≡ some u)). others j u t.0 t.1) (at_set views id j w u at)

  -- a seat that found no more at most once may find so again
  one_more_end : (start rounds count : ℕ) (v : RoundView) → Fits size start rounds count v → v.own_ends ≤ 1 → (v.is_root ≡ false → v.parts ≡ 1) → (b : Bool) → v.is_root ≡ b → v.ends + 1 ≤ 2 * v.parts
  one_more_end start rounds count v f may claimer true is = let r = f.root is in omega arith
  one_more_end start rounds count v f may claimer false is = let c = f.claimer is in let p = claimer is in omega arith

  module _ {S : Type 0} (s : State S RoundView) (k : IsKept size s) where
    abbrev count : ℕ
    count = slice_index s.words 0

    few_ends : total (λ (v : RoundView). v.ends) s.views ≤ 130
    few_ends =
        let a : total (λ (v : RoundView). v.ends) s.views ≤ total (λ (v : RoundView). 2 * v.parts) s.views = total_le (λ (v : RoundView). v.ends) (λ (v : RoundView). 2 * v.parts) s.views (λ id v at. (k.each id v at).few_ends) in
        let b = total_twice (λ (v : RoundView). v.parts) s.views in
        let c = k.parts in omega arith

    -- the counter never wraps
    bound : count + 1 < 2 ^ 64
    bound =
        let a = few_ends in
        let b : k.begun * (size + 130) ≤ 2 ^ 31 * (2 ^ 32 + 130) = (let z : size + 130 ≤ 2 ^ 32 + 130 = (let y = k.small in omega arith) in mul-le-mul k.few_rounds z) in
        let c = k.few_draws in
        let d = k.high in omega arith

    -- a seat that has all parts, at a counter past the round, drew each number once
    whole : (id : ℕ) (v : RoundView) → get_elem? s.views id ≡ some v → k.start + size ≤ count → v.parts ≡ all_parts → IsEachOnce v.pieces v.drawn
    whole id v at full all =
        let f = k.each id v at in
        let same = f.same (omega arith) in
        let e : v.pieces ≡ size = same.1 in
        let one : (x : ℕ) → total (λ (u : RoundView). occurrences x u.drawn) s.views ≡ occurrences x v.drawn = λ x.
        alone (λ (u : RoundView). u.parts) (λ (u : RoundView). occurrences x u.drawn) s.views id v at (k.parts ∙ sym all) (λ j u there idle. ap (occurrences x) ((k.each j u there).idle idle).0) in
        record { below = λ x h. sym (one x) ∙ k.once x (omega arith) (omega arith); no_other = λ x h. sym (one x) ∙ k.beyond x (omega arith) }

    -- a draw of a number of the round
    inside : (id : ℕ) (v : RoundView) (ws : List ℕ) (n : ℕ) → get_elem? s.views id ≡ some v → 0 < v.parts → k.start + n ≡ count → n < size → length ws ≡ 1 → slice_index ws 0 ≡ count + 1
        → IsKept size record { words = ws; homes = s.homes; views = set s.views id (record v { drawn = v.drawn ++ n ∷ [] }) }
    inside id v ws n at part is lt one now =
        let w : RoundView = record v { drawn = v.drawn ++ n ∷ [] } in
        let f = k.each id v at in
        let step : (x : ℕ) → total (λ (u : RoundView). occurrences x u.drawn) (set s.views id w) ≡ total (λ (u : RoundView). occurrences x u.drawn) s.views + occurrences x (n ∷ []) = λ x.
        let a = total_set (λ (u : RoundView). occurrences x u.drawn) s.views id v w at in
        let b = occurrences_append x v.drawn (n ∷ []) in omega arith in
        record {
          start = k.start;
          begun = k.begun;
          small = k.small;
          few_rounds = k.few_rounds;
          few_draws = k.few_draws;
          one_word = one;
          low = omega arith;
          high = (let a = total_set (λ (u : RoundView). u.ends) s.views id v w at in let b = k.high in omega arith);
          few_numbers = (let a = total_set (λ (u : RoundView). length u.drawn) s.views id v w at in let b = length-append v.drawn (n ∷ []) in let c = k.few_numbers in let d = k.numbers in omega arith);
          numbers = (let a = total_set (λ (u : RoundView). length u.drawn) s.views id v w at in let b = length-append v.drawn (n ∷ []) in let c = k.few_numbers in let d = k.numbers in omega arith);
          parts = (let a = total_set (λ (u : RoundView). u.parts) s.views id v w at in let b = k.parts in omega arith);
          once = λ x small below. dite (ℕ_discrete x n)
              (λ e. let a = step x in let b = k.not_yet x (omega arith) in let c : occurrences x (n ∷ []) ≡ 1 = ap (λ (y : ℕ). occurrences x (y ∷ [])) (sym e) ∙ occurrences_here x in omega arith)
              (λ ne. let a = step x in let b = k.once x small (let g : x ≢ n = ne in omega arith) in let c = occurrences_other x n ne in omega arith);
          not_yet = λ x over. (let a = step x in let b = k.not_yet x (omega arith) in let c = occurrences_other x n (λ e. omega arith) in omega arith);
          beyond = λ x over. (let a = step x in let b = k.beyond x over in let c = occurrences_other x n (λ e. omega arith) in omega arith);
          each = each_set k.start k.begun (slice_index ws 0) s.views id w
              (fits_more k.start k.begun count (slice_index ws 0) w (omega arith) record { idle = λ h. absurd (omega arith); same = f.same; few_ends = f.few_ends; few_own = f.few_own; claimer = f.claimer; ended = f.ended; root = f.root })
              (λ j u _ there. fits_more k.start k.begun count (slice_index ws 0) u (omega arith) (k.each j u there));
        }

    -- a draw of a number past the round
    outside : (id : ℕ) (v : RoundView) (ws : List ℕ) → get_elem? s.views id ≡ some v → 0 < v.parts → v.own_ends ≤ 1 → (v.is_root ≡ false → v.parts ≡ 1) → k.start + size ≤ count → length ws ≡ 1 → slice_index ws 0 ≡ count + 1
        → IsKept size record { words = ws; homes = s.homes; views = set s.views id (record v { own_ends = v.own_ends + 1; ends = v.ends + 1 }) }
    outside id v ws at part may claimer full one now =
        let w : RoundView = record v { own_ends = v.own_ends + 1; ends = v.ends + 1 } in
        let f = k.each id v at in
        let few : v.ends + 1 ≤ 2 * v.parts = one_more_end k.start k.begun count v f may claimer v.is_root refl in
        let step : (x : ℕ) → total (λ (u : RoundView). occurrences x u.drawn) (set s.views id w) ≡ total (λ (u : RoundView). occurrences x u.drawn) s.views = λ x.
        let a = total_set (λ (u : RoundView). occurrences x u.drawn) s.views id v w at in omega arith in
        record {
          start = k.start;
          begun = k.begun;
          small = k.small;
          few_rounds = k.few_rounds;
          few_draws = k.few_draws;
          one_word = one;
          low = omega arith;
          high = (let a = total_set (λ (u : RoundView). u.ends) s.views id v w at in let b = k.high in omega arith);
          few_numbers = (let a = total_set (λ (u : RoundView). length u.drawn) s.views id v w at in let c = k.few_numbers in omega arith);
          numbers = (let a = total_set (λ (u : RoundView). length u.drawn) s.views id v w at in let c = k.numbers in omega arith);
          parts = (let a = total_set (λ (u : RoundView). u.parts) s.views id v w at in let b = k.parts in omega arith);
          once = λ x small below. step x ∙ k.once x small (omega arith);
          not_yet = λ x over. step x ∙ k.not_yet x (omega arith);
          beyond = λ x over. step x ∙ k.beyond x over;
          each = each_set k.start k.begun (slice_index ws 0) s.views id w
              record { idle = λ h. absurd (omega arith); same = f.same; few_ends = few; few_own = omega arith; claimer = λ h. (let a = f.claimer h in omega arith); ended = λ _. omega arith; root = λ h. (let r = f.root h in (r.0, r.1, r.2, omega arith)) }
              (λ j u _ there. fits_more k.start k.begun count (slice_index ws 0) u (omega arith) (k.each j u there));
        }

    -- a round begins
    fresh : (id : ℕ) (v : RoundView) (ws : List ℕ) → get_elem? s.views id ≡ some v → v.is_root ≡ true → v.parts ≡ all_parts → v.rounds < 2 ^ 31 → length ws ≡ 1 → slice_index ws 0 ≡ count
        → IsKept size record { words = ws; homes = s.homes; views = set s.views id (begun v count) }
    fresh id v ws at leads full may one now =
        let w : RoundView = begun v count in
        let f = k.each id v at in
        let root = f.root leads in
        let rounds : v.rounds ≡ k.begun = root.0 in
        let count_is : v.pieces ≡ size = (f.same (omega arith)).1 in
        let nothing : (g : RoundView → ℕ) → ((u : RoundView) → (u.drawn ≡ []) × (u.ends ≡ 0) → g u ≡ 0) → g w ≡ 0 → total g (set s.views id w) ≡ 0 = λ g empty zero.
        let a = total_set g s.views id v w at in
        let b = alone (λ (u : RoundView). u.parts) g s.views id v at (k.parts ∙ sym full) (λ j u there idle. empty u ((k.each j u there).idle idle)) in omega arith in
        let ends : total (λ (u : RoundView). u.ends) (set s.views id w) ≡ 0 = nothing (λ u. u.ends) (λ u e. e.1) refl in
        let numbers : total (λ (u : RoundView). length u.drawn) (set s.views id w) ≡ 0 = nothing (λ u. length u.drawn) (λ u e. ap length e.0) refl in
        let drawn : (x : ℕ) → total (λ (u : RoundView). occurrences x u.drawn) (set s.views id w) ≡ 0 = λ x. nothing (λ u. occurrences x u.drawn) (λ u e. ap (occurrences x) e.0) refl in
        let idle : (j : ℕ) (u : RoundView) → j ≢ id → get_elem? s.views j ≡ some u → u.parts ≡ 0 = others_none (λ (u : RoundView). u.parts) s.views id v at (k.parts ∙ sym full) in
        record {
          start = count;
          begun = k.begun + 1;
          small = k.small;
          few_rounds = omega arith;
          few_draws = (let a = few_ends in let b = k.high in let c = k.few_draws in omega arith);
          one_word = one;
          low = omega arith;
          high = omega arith;
          few_numbers = omega arith;
          numbers = omega arith;
          parts = (let a = total_set (λ (u : RoundView). u.parts) s.views id v w at in let b = k.parts in omega arith);
          once = λ x small below. absurd (omega arith);
          not_yet = λ x over. drawn x;
          beyond = λ x over. drawn x;
          each = each_set count (k.begun + 1) (slice_index ws 0) s.views id w
              record { idle = λ h. absurd (omega arith); same = λ _. (refl, count_is); few_ends = omega arith; few_own = omega arith; claimer = λ h. absurd (true≢false h); ended = λ h. absurd (omega arith); root = λ h. (ap (λ (n : ℕ). n + 1) rounds, omega arith, omega arith, omega arith) }
              (λ j u ne there.
              let g = k.each j u there in
              let z : u.parts ≡ 0 = idle j u ne there in
              let i = g.idle z in
              record { idle = g.idle; same = λ h. absurd (omega arith); few_ends = g.few_ends; few_own = g.few_own; claimer = g.claimer; ended = λ h. absurd (omega arith); root = λ h. (let r = g.root h in absurd (omega arith)) });
        }

    -- the root lends a claimer
    forked : (id : ℕ) (v : RoundView) → get_elem? s.views id ≡ some v → v.is_root ≡ true → v.lent < most_claimers
        → IsKept size record { words = s.words; homes = s.homes; views = set s.views id (lending v) ++ lent v ∷ [] }
    forked id v at leads may =
        let l : RoundView = lending v in
        let r : RoundView = lent v in
        let f = k.each id v at in
        let root = f.root leads in
        let sums : (g : RoundView → ℕ) → total g (set s.views id l ++ r ∷ []) + g v ≡ total g s.views + g l + g r = λ g.
        let a = total_set g s.views id v l at in
        let b = total_snoc g (set s.views id l) r in omega arith in
        let drawn : (x : ℕ) → total (λ (u : RoundView). occurrences x u.drawn) (set s.views id l ++ r ∷ []) ≡ total (λ (u : RoundView). occurrences x u.drawn) s.views = λ x. (let a = sums (λ u. occurrences x u.drawn) in omega arith) in
        record {
          start = k.start;
          begun = k.begun;
          small = k.small;
          few_rounds = k.few_rounds;
          few_draws = k.few_draws;
          one_word = k.one_word;
          low = k.low;
          high = (let a = sums (λ u. u.ends) in let b = k.high in omega arith);
          few_numbers = (let a = sums (λ u. length u.drawn) in let b = k.few_numbers in omega arith);
          numbers = (let a = sums (λ u. length u.drawn) in let b = k.numbers in omega arith);
          parts = (let a = sums (λ u. u.parts) in let b = k.parts in omega arith);
          once = λ x small below. drawn x ∙ k.once x small below;
          not_yet = λ x over. drawn x ∙ k.not_yet x over;
          beyond = λ x over. drawn x ∙ k.beyond x over;
          each = λ j u there. ⊎_elim
              (λ (e : get_elem? (set s.views id l) j ≡ some u). each_set k.start k.begun count s.views id l
              record { idle = λ h. absurd (omega arith); same = λ h. f.same (omega arith); few_ends = omega arith; few_own = f.few_own; claimer = f.claimer; ended = f.ended; root = λ h. (root.0, omega arith, omega arith, omega arith) }
              (λ j u _ there. k.each j u there) j u e)
              (λ (e : r ≡ u). subst (Fits size k.start k.begun count) e
              record { idle = λ h. absurd (omega arith); same = λ h. f.same (omega arith); few_ends = omega arith; few_own = omega arith; claimer = λ h. omega arith; ended = λ h. absurd (omega arith); root = λ h. absurd (true≢false (sym h)) })
              (at_snoc (set s.views id l) r u j there);
        }

    -- the root takes a claimer back
    merged : (id : ℕ) (v : RoundView) (other : ℕ) (w : RoundView) → get_elem? s.views id ≡ some v → v.is_root ≡ true → other ≢ id → get_elem? (set s.views id (with_claimer v w)) other ≡ some w
        → IsKept size record { words = s.words; homes = s.homes; views = set (set s.views id (with_claimer v w)) other spent }
    merged id v other w at leads ne there =
        let b : RoundView = with_claimer v w in
        let f = k.each id v at in
        let root = f.root leads in
        let was : get_elem? s.views other ≡ some w = ⊎_elim (λ (t : (other ≡ id) × (b ≡ w)). absurd (ne t.0)) (λ (t : (other ≢ id) × (get_elem? s.views other ≡ some w)). t.1) (at_set s.views id other b w there) in
        let h = k.each other w was in
        let sums : (g : RoundView → ℕ) → g b ≡ g v + g w → g spent ≡ 0 → total g (set (set s.views id b) other spent) ≡ total g s.views = λ g add zero.
        let x = total_set g s.views id v b at in
        let y = total_set g (set s.views id b) other w spent there in omega arith in
        let drawn : (x : ℕ) → total (λ (u : RoundView). occurrences x u.drawn) (set (set s.views id b) other spent) ≡ total (λ (u : RoundView). occurrences x u.drawn) s.views = λ x. sums (λ u. occurrences x u.drawn) (occurrences_append x v.drawn w.drawn) refl in
        record {
          start = k.start;
          begun = k.begun;
          small = k.small;
          few_rounds = k.few_rounds;
          few_draws = k.few_draws;
          one_word = k.one_word;
          low = k.low;
          high = (let a = sums (λ u. u.ends) refl refl in let b = k.high in omega arith);
          few_numbers = (let a = sums (λ u. length u.drawn) (length-append v.drawn w.drawn) refl in let b = k.few_numbers in omega arith);
          numbers = (let a = sums (λ u. length u.drawn) (length-append v.drawn w.drawn) refl in let b = k.numbers in omega arith);
          parts = sums (λ u. u.parts) refl refl ∙ k.parts;
          once = λ x small below. drawn x ∙ k.once x small below;
          not_yet = λ x over. drawn x ∙ k.not_yet x over;
          beyond = λ x over. drawn x ∙ k.beyond x over;
          each = each_set k.start k.begun count (set s.views id b) other spent
              record { idle = λ _. (refl, refl); same = λ h. absurd (omega arith); few_ends = omega arith; few_own = omega arith; claimer = λ _. omega arith; ended = λ h. absurd (omega arith); root = λ h. absurd (true≢false (sym h)) }
              (λ j u _ e. each_set k.start k.begun count s.views id b
              record { idle = λ z. absurd (omega arith); same = λ _. f.same (omega arith); few_ends = (let x = f.few_ends in let y = h.few_ends in omega arith); few_own = f.few_own; claimer = λ z. absurd (true≢false (sym leads ∙ z)); ended = λ z. ⊎_elim (λ (e : v.ends ≡ 0). h.ended (omega arith)) (λ (e : 0 < v.ends). f.ended e) (eq-zero-or-pos v.ends); root = λ _. (root.0, root.1, omega arith, (let y = h.few_ends in omega arith)) }
              (λ j u _ there. k.each j u there) j u e);
        }

  -- ---- the steps, as the calls ask for them

  module _ {S : Type 0} (slots id : ℕ) (me : Me S RoundView) where
    abbrev Rule : State S RoundView → Type 0
    Rule s = IsKept size s

    pub draws : 0 < me.0.parts → me.0.own_ends ≤ 1 → (me.0.is_root ≡ false → me.0.parts ≡ 1) → Allows Rule slots id me 0 (λ n. (n + 1) % 2 ^ 64) (Draws (step slots 0 1 0 none) me)
    draws part may claimer s k len at below =
        let v = me.0 in
        let n : ℕ = slice_index s.words 0 in
        let f = k.each id v at in
        let same = f.same part in
        let first : v.first ≡ k.start = same.0 in
        let count_is : v.pieces ≡ size = same.1 in
        let exact : (n + 1) % 2 ^ 64 ≡ n + 1 = mod-eq_of_lt (bound s k) in
        let low = k.low in
        let numbers = k.numbers in
        let mine = part_le (λ (u : RoundView). length u.drawn) s.views id v at in
        let ws : List ℕ = set s.words 0 ((n + 1) % 2 ^ 64) in
        let one : length ws ≡ 1 = length-set s.words 0 ((n + 1) % 2 ^ 64) ∙ k.one_word in
        let now : slice_index ws 0 ≡ n + 1 = get_or-set_same s.words 0 ((n + 1) % 2 ^ 64) 0 (let o = k.one_word in omega arith) ∙ exact in
        dite (dec_le (k.start + size) n)
        (λ full.
        let w : RoundView = record v { own_ends = v.own_ends + 1; ends = v.ends + 1 } in
        (w, keeps, tt, outside s k id v ws at part may claimer full one now, (refl, omega arith, inr (omega arith, record { view = refl; whole = λ all _. whole s k id v at full all }))))
        (λ short.
        let m : ℕ = n - k.start in
        let is : k.start + m ≡ n = omega arith in
        let small : k.start + size ≤ n → ⊥ = short in
        let lt : m < size = omega (arith, lt_of_not-le small) in
        let w : RoundView = record v { drawn = v.drawn ++ m ∷ [] } in
        (w, keeps, tt, inside s k id v ws m at part is lt one now, (refl, omega arith, inl (m, omega arith, record { below = omega arith; view = refl; earlier = omega arith }))))

    pub begins : me.0.is_root ≡ true → me.0.parts ≡ all_parts → me.0.rounds < 2 ^ 31 → Allows Rule slots id me 0 (λ n. n) (Begins (step slots 0 0 0 none) me)
    begins leads full may s k len at below =
        let v = me.0 in
        let n : ℕ = slice_index s.words 0 in
        let ws : List ℕ = set s.words 0 n in
        (begun v n, keeps, tt, fresh s k id v ws at leads full may (length-set s.words 0 n ∙ k.one_word) (get_or-set_same s.words 0 n 0 (let o = k.one_word in omega arith)), (refl, refl))

    pub looks : Allows Rule slots id me 0 (λ n. n) (Looks (step slots 0 0 0 none) me)
    looks s k len at below =
        let v = me.0 in
        let f = k.each id v at in
        (v, keeps, tt, subst Rule (λ i. record { words = sym (set-get_or s.words 0 0) i; homes = s.homes; views = sym (set_again s.views id v at) i }) k, (refl, λ all ends. whole s k id v at (f.ended ends) all))

    pub splits : me.0.is_root ≡ true → me.0.lent < most_claimers → Splits Rule id me.0 (lending me.0) (lent me.0)
    splits leads may s k at = forked s k id me.0 at leads may

    pub joins : (other : ℕ) (w : RoundView) → me.0.is_root ≡ true → Joins Rule id me.0 other w (with_claimer me.0 w) spent
    joins other w leads s k at ne there = merged s k id me.0 other w at leads ne there
