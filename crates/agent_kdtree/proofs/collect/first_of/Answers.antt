use Rattle.std.proofs.Common.{◌≡◌, ◌∙◌, ⊎_elim, ℕ, zero, suc, ◌<◌, ◌≤◌, List, [], ◌∷◌, min, take, length, refl, sym, ap, arith}
use Rattle.std.proofs.lemmas.Bool.{cases_lt}
use Rattle.std.proofs.lemmas.List.{take_all}
use Rattle.std.proofs.lemmas.List.Sorted.{IsNonDecreasingBy-from_sort}
use Rattle.crowd_data.specs.Neighbours.{Seen}
use Rattle.agent_kdtree.specs.Keys.{seen_of_keys, seen_of_key}
use Rattle.agent_kdtree.proofs.Sorting.{sorted-order}
use Rattle.agent_kdtree.proofs.collect.first_of.Goals as goal

seen_of_keys-take : (n : ℕ) (l : List ℕ) → seen_of_keys (take n l) ≡ take n (seen_of_keys l)
seen_of_keys-take zero l = refl
seen_of_keys-take (suc n) [] = refl
seen_of_keys-take (suc n) (x ∷ xs) = ap (λ (t : List Seen). seen_of_key x ∷ t) (seen_of_keys-take n xs)

-- no more than there are
cut : (i n : ℕ) (l : List ℕ) → i ≡ min (length l) n → take i l ≡ take n l
cut i n l e = ⊎_elim
    (λ (h : length l < n). let f : i ≡ length l = omega arith in ap (λ m. take m l) f ∙ take_all (length l) l (omega arith) ∙ sym (take_all n l (omega arith)))
    (λ (h : n ≤ length l). let f : i ≡ n = omega arith in ap (λ m. take m l) f)
    (cases_lt (length l) n)

pub returns : goal.returns
returns c =
    let sorted = c.sort_unstable.new.self in
    let i : c.loop-i.i ≡ min (length sorted) c.args.most = omega arith in
    c.loop-i.invariant
    ∙ ap seen_of_keys (cut c.loop-i.i c.args.most sorted i)
    ∙ seen_of_keys-take c.args.most sorted
    ∙ ap (take c.args.most) (sym (sorted-order c.args.keys.now sorted c.sort_unstable.ensures.permutation (IsNonDecreasingBy-from_sort (λ (x : ℕ). x) sorted c.sort_unstable.ensures.sorted)))
