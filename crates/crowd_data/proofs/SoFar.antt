-- What holds of the items so far.
use Rattle.std.proofs.Common.{◌<◌, ◌≤◌, ◌+◌, List, ℕ, length, get_or, take, sym, subst}
use Rattle.std.specs.List.{All}
use Rattle.std.proofs.lemmas.List.{take_more, take_all}
use Rattle.std.proofs.lemmas.List.Elements.{All-push}

module _ {A : Type 0} (P : A → Type 0) (xs : List A) (i : ℕ) where
  -- of one more
  pub all_more : (d : A) → i < length xs → All P (take i xs) → P (get_or xs i d) → All P (take (i + 1) xs)
  all_more d h all p = subst (All P) (sym (take_more xs i d h)) (All-push P (take i xs) (get_or xs i d) all p)

  -- of all
  pub all_of_so_far : length xs ≤ i → All P (take i xs) → All P xs
  all_of_so_far h all = subst (All P) (take_all i xs h) all
