-- Posts stay in order where one more isn't before the last.
use Rattle.std.proofs.Common.{◌≡◌, ◌⊎◌, ◌<◌, ◌≤◌, ◌-◌, ℕ, zero, suc, List, [], ◌∷◌, ◌++◌, length, get_or, true, ap, subst, inl, inr, arith}
use Rattle.std.specs.List.{AllPairs}
use Rattle.std.proofs.lemmas.Bool.{leb-true}
use Rattle.std.proofs.lemmas.List.Quantifiers.{all_pairs_push}
use Rattle.std.proofs.lemmas.Option.{slice_get-get_or}
use Rattle.crowd_data.specs.declared.post.ScriptPost.{ScriptPost}
use Rattle.scenario_read.specs.PostRecord.{keeps_order, last_post}

last_or_before : (k n : ℕ) → k < n → (k ≡ n - 1) ⊎ (k < n - 1)
last_or_before k zero h = absurd (omega arith)
last_or_before zero (suc zero) h = inl (omega arith)
last_or_before zero (suc (suc n)) h = inr (omega arith)
last_or_before (suc k) (suc n) h = elim (last_or_before k n (omega arith)) [ inl e ↦ inl (omega arith) | inr l ↦ inr (omega arith) ]

module _ (posts : List ScriptPost) (post : ScriptPost) (order : AllPairs (λ (p : ScriptPost) (q : ScriptPost). p.frame ≤ q.frame) posts)
    (kept : keeps_order (last_post posts) post.frame ≡ true) where
  -- the last post isn't behind the new one
  last_kept : (d : ScriptPost) → 0 < length posts → (get_or posts (length posts - 1) d).frame ≤ post.frame
  last_kept d some =
      leb-true (get_or posts (length posts - 1) d).frame post.frame
      (subst (λ o. keeps_order o post.frame ≡ true) (slice_get-get_or posts (length posts - 1) d (omega arith)) kept)

  each_kept : (k : ℕ) (d : ScriptPost) → k < length posts → (get_or posts k d).frame ≤ post.frame
  each_kept k d h =
      let last = last_kept d (omega arith) in
      elim (last_or_before k (length posts) h) [
        | inl e ↦ omega (arith, ap (λ n. (get_or posts n d).frame) e, last)
        | inr before ↦ omega (arith, order k (length posts - 1) d before (omega arith), last)
      ]

  pub order_more : AllPairs (λ (p : ScriptPost) (q : ScriptPost). p.frame ≤ q.frame) (posts ++ post ∷ [])
  order_more = all_pairs_push (λ (p : ScriptPost) (q : ScriptPost). p.frame ≤ q.frame) posts post order each_kept
