-- All numbers, and trees over them.
use Rattle.std.proofs.Common.{◌≡◌, ℕ, zero, suc, ◌<◌, ◌≤◌, List, [], ◌∷◌, length, refl, sym, ◌∙◌, subst, arith, ⊎_elim}
use Rattle.std.proofs.lemmas.List.{length_push}
use Rattle.std.proofs.lemmas.List.Elements.{Contains-append_left, Contains-push}
use Rattle.std.proofs.lemmas.List.Sorted.{All-permutation, length_permutation}
use Rattle.std.proofs.lemmas.Bool.{cases_lt}
use Rattle.std.specs.List.{All, Contains}
use Rattle.std.specs.List.Sorted.{IsPermutation}
use Rattle.crowd_data.specs.declared.pair.Place.{Place}
use Rattle.crowd_data.specs.Neighbours.{numbers}
use Rattle.crowd_data.proofs.Sight.{all_numbers}
use Rattle.agent_kdtree.specs.declared.bounds.Bounds.{Bounds}
use Rattle.agent_kdtree.specs.declared.tree.Tree.{Tree}
use Rattle.agent_kdtree.specs.Boxes.{IsCovered, IsEnough, IsNode}
use Rattle.agent_kdtree.specs.ByCell.{HasNumbers, IsByCell}
use Rattle.agent_kdtree.specs.Placed.{IsPlaced}
use Rattle.agent_kdtree.specs.Stands.{StandsFor}

pub numbers-contain : (n k : ℕ) → k < n → Contains (numbers n) k
numbers-contain zero k h = absurd (omega arith)
numbers-contain (suc n) k h =
    ⊎_elim
    (λ (l : k < n). Contains-append_left (numbers n) (n ∷ []) k (numbers-contain n k l))
    (λ (g : n ≤ k). let e : k ≡ n = omega arith in rw e (Contains-push (numbers n) n))
    (cases_lt k n)

pub numbers-length : (n : ℕ) → length (numbers n) ≡ n
numbers-length zero = refl
numbers-length (suc n) = length_push (numbers n) n ∙ omega (arith, numbers-length n)

pub order-below : (n : ℕ) (order : List ℕ) → IsPermutation (numbers n) order → All (λ k. k < n) order
order-below n order p = All-permutation (λ k. k < n) (numbers n) order p (all_numbers n)

pub order-length : (n : ℕ) (order : List ℕ) → IsPermutation (numbers n) order → length order ≡ n
order-length n order p = length_permutation (numbers n) order p ∙ numbers-length n

pub root : (tree : Tree) (places : List Place) → StandsFor tree places → IsNode places tree.order.items tree.boxes.items
root tree places h = record {
  numbers = order-below (length places) tree.order.items h.room.order;
  enough =
      let e : length tree.order.items ≡ length places = order-length (length places) tree.order.items h.room.order in
      rw e h.room.boxes;
  covered = h.covered;
}

pub stands_for : (tree : Tree) (places : List Place) (order : List ℕ) (boxes : List Bounds) → tree.order.items ≡ order → tree.boxes.items ≡ boxes → IsPermutation (numbers (length places)) order
    → IsEnough (length places) (length boxes) → All IsPlaced places → IsCovered places order boxes → HasNumbers tree.layout (length places) → IsByCell tree.layout places → StandsFor tree places
stands_for tree places order boxes e f p n a b h l = record {
  placed = a;
  room = record {
    order = subst (λ (t : List ℕ). IsPermutation (numbers (length places)) t) (sym e) p;
    boxes = subst (λ (t : List Bounds). IsEnough (length places) (length t)) (sym f) n;
    layout = h;
  };
  covered = subst (λ (t : List ℕ). IsCovered places t tree.boxes.items) (sym e) (subst (λ (t : List Bounds). IsCovered places order t) (sym f) b);
  by_cell = l;
}
