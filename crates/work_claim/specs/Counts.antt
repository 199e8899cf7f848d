-- Counts over lists.
use Rattle.std.specs.Prelude.{ℕ, ◌≡◌, ◌<◌, ◌≤◌, ◌+◌, ◌==◌, if◌then◌else◌, List, [], ◌∷◌}

-- how often x stands in the list
abbrev pub occurrences : ℕ → List ℕ → ℕ
occurrences x [] = 0
occurrences x (y ∷ ys) = (if y == x then 1 else 0) + occurrences x ys

-- f of each, added up
abbrev pub total : {V : Type 0} → (V → ℕ) → List V → ℕ
total f [] = 0
total f (v ∷ vs) = f v + total f vs

-- the numbers below n stand in the list, each once, and no others
pub record IsEachOnce (n : ℕ) (xs : List ℕ) : Type 0 where
  pub below : (x : ℕ) → x < n → occurrences x xs ≡ 1
  pub no_other : (x : ℕ) → n ≤ x → occurrences x xs ≡ 0
