-- Sums over the views.
use Rattle.std.proofs.Common.{◌≡◌, ◌≢◌, ℕ, zero, suc, ◌+◌, ◌*◌, ◌≤◌, List, [], ◌∷◌, ◌++◌, set, sym, refl, ap, arith, zero-add}
use Rattle.std.proofs.lemmas.Bool.Decides.{nat_tests}
use mathlib.Core.Option.{some, some-injective, some-ne-none}
use lib.ListN.{get_elem?}
use Rattle.work_claim.specs.Counts.{occurrences, total}

module _ {V : Type 0} where
  pub total_set : (f : V → ℕ) (views : List V) (id : ℕ) (v w : V) → get_elem? views id ≡ some v → total f (set views id w) + f v ≡ total f views + f w
  total_set f [] id v w at = absurd (some-ne-none v (sym at))
  total_set f (x ∷ xs) zero v w at = let e : f x ≡ f v = ap f (some-injective x v at) in omega arith
  total_set f (x ∷ xs) (suc id) v w at = let e = total_set f xs id v w at in omega arith

  pub total_snoc : (f : V → ℕ) (views : List V) (w : V) → total f (views ++ w ∷ []) ≡ total f views + f w
  total_snoc f [] w = omega arith
  total_snoc f (x ∷ xs) w = let e = total_snoc f xs w in omega arith

  pub total_le : (f g : V → ℕ) (views : List V) → ((id : ℕ) (v : V) → get_elem? views id ≡ some v → f v ≤ g v) → total f views ≤ total g views
  total_le f g [] each = omega arith
  total_le f g (x ∷ xs) each = let a : f x ≤ g x = each 0 x refl in let e = total_le f g xs (λ id v at. each (suc id) v at) in omega arith

  pub total_twice : (f : V → ℕ) (views : List V) → total (λ v. 2 * f v) views ≡ 2 * total f views
  total_twice f [] = refl
  total_twice f (x ∷ xs) = let e = total_twice f xs in omega arith

  pub total_none : (f : V → ℕ) (views : List V) → ((id : ℕ) (v : V) → get_elem? views id ≡ some v → f v ≡ 0) → total f views ≡ 0
  total_none f [] each = refl
  total_none f (x ∷ xs) each = let a : f x ≡ 0 = each 0 x refl in let e = total_none f xs (λ id v at. each (suc id) v at) in omega arith

  pub part_le : (f : V → ℕ) (views : List V) (id : ℕ) (v : V) → get_elem? views id ≡ some v → f v ≤ total f views
  part_le f [] id v at = absurd (some-ne-none v (sym at))
  part_le f (x ∷ xs) zero v at = let e : f x ≡ f v = ap f (some-injective x v at) in omega arith
  part_le f (x ∷ xs) (suc id) v at = let e = part_le f xs id v at in omega arith

  -- where no part is elsewhere, g is all there
  pub alone : (f g : V → ℕ) (views : List V) (id : ℕ) (v : V) → get_elem? views id ≡ some v → total f views ≡ f v → ((j : ℕ) (u : V) → get_elem? views j ≡ some u → f u ≡ 0 → g u ≡ 0) → total g views ≡ g v
  alone f g [] id v at all idle = absurd (some-ne-none v (sym at))
  alone f g (x ∷ xs) zero v at all idle =
      let same = some-injective x v at in let e : f x ≡ f v = ap f same in let e' : g x ≡ g v = ap g same in
      let none : total g xs ≡ 0 = total_none g xs (λ j u there. idle (suc j) u there (let p = part_le f xs j u there in omega arith)) in omega arith
  alone f g (x ∷ xs) (suc id) v at all idle =
      let p = part_le f xs id v at in
      let here : g x ≡ 0 = idle 0 x refl (omega arith) in
      let e = alone f g xs id v at (omega arith) (λ j u there. idle (suc j) u there) in omega arith

  -- where f is all at one place, it is nothing at the others
  pub others_none : (f : V → ℕ) (views : List V) (id : ℕ) (v : V) → get_elem? views id ≡ some v → total f views ≡ f v → (j : ℕ) (u : V) → j ≢ id → get_elem? views j ≡ some u → f u ≡ 0
  others_none f [] id v at all j u ne there = absurd (some-ne-none v (sym at))
  others_none f (x ∷ xs) zero v at all zero u ne there = absurd (ne refl)
  others_none f (x ∷ xs) zero v at all (suc j) u ne there = let e : f x ≡ f v = ap f (some-injective x v at) in let p = part_le f xs j u there in omega arith
  others_none f (x ∷ xs) (suc id) v at all zero u ne there = let e : f x ≡ f u = ap f (some-injective x u there) in let p = part_le f xs id v at in omega arith
  others_none f (x ∷ xs) (suc id) v at all (suc j) u ne there = let p = part_le f xs id v at in others_none f xs id v at (omega arith) j u (λ e. ne (ap suc e)) there

pub occurrences_append : (x : ℕ) (ys zs : List ℕ) → occurrences x (ys ++ zs) ≡ occurrences x ys + occurrences x zs
occurrences_append x [] zs = sym (zero-add (occurrences x zs))
occurrences_append x (y ∷ ys) zs = let e = occurrences_append x ys zs in omega arith

pub occurrences_here : (x : ℕ) → occurrences x (x ∷ []) ≡ 1
occurrences_here x = grind (arith, nat_tests)

pub occurrences_other : (x y : ℕ) → x ≢ y → occurrences x (y ∷ []) ≡ 0
occurrences_other x y ne = grind (arith, nat_tests)
