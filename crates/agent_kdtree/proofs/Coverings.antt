-- Boxes of nodes.
use Rattle.std.proofs.Common.{◌≡◌, ℕ, zero, suc, ◌+◌, ◌-◌, ◌*◌, ◌/◌, ◌<◌, ◌≤◌, List, [], ◌∷◌, ◌++◌, length, take, drop, set, arith}
use Rattle.std.proofs.lemmas.List.{take_at, drop_at, length-take-le, length-drop}
use Rattle.std.proofs.lemmas.List.Elements.{All-take, All-drop, All-append, All-weaker}
use Rattle.crowd_data.specs.declared.pair.Place.{Place}
use Rattle.agent_kdtree.specs.declared.bounds.Bounds.{Bounds}
use Rattle.crowd_data.specs.Neighbours.{place_at}
use Rattle.agent_kdtree.specs.Boxes.{IsBounds, Covers, CoversAll, IsCovered, CoveredTo, box_at, lower, upper, lower_boxes, IsEnough, IsNode, leaf_places}

pub boxed_leaf : (places : List Place) (order : List ℕ) (boxes : List Bounds) → IsBounds (box_at boxes 0) → CoversAll (box_at boxes 0) places order → length order ≤ leaf_places → IsCovered places order boxes
boxed_leaf places order boxes b c h = record { at = to }
  where
    to : (depth : ℕ) → CoveredTo depth places order boxes
    to zero = tt
    to (suc depth) = (b, c, λ l. absurd (omega arith))

pub boxed_node : (places : List Place) (order : List ℕ) (boxes : List Bounds) → IsBounds (box_at boxes 0) → CoversAll (box_at boxes 0) places order
    → IsCovered places (take (length order / 2) order) (lower boxes (length order)) → IsCovered places (drop (length order / 2) order) (upper boxes (length order)) → IsCovered places order boxes
boxed_node places order boxes b c l u = record { at = to }
  where
    to : (depth : ℕ) → CoveredTo depth places order boxes
    to zero = tt
    to (suc depth) = (b, c, λ h. (l.at depth, u.at depth))

pub covered-bounds : (places : List Place) (order : List ℕ) (boxes : List Bounds) → IsCovered places order boxes → IsBounds (box_at boxes 0)
covered-bounds places order boxes h = (h.at 1).0

pub covered-covers : (places : List Place) (order : List ℕ) (boxes : List Bounds) → IsCovered places order boxes → CoversAll (box_at boxes 0) places order
covered-covers places order boxes h = (h.at 1).1

pub covered-lower : (places : List Place) (order : List ℕ) (boxes : List Bounds) → IsCovered places order boxes → leaf_places < length order → IsCovered places (take (length order / 2) order) (lower boxes (length order))
covered-lower places order boxes h l = record { at = λ depth. ((h.at (suc depth)).2 l).0 }

pub covered-upper : (places : List Place) (order : List ℕ) (boxes : List Bounds) → IsCovered places order boxes → leaf_places < length order → IsCovered places (drop (length order / 2) order) (upper boxes (length order))
covered-upper places order boxes h l = record { at = λ depth. ((h.at (suc depth)).2 l).1 }

-- a node of its box and its two halves
pub joined : (places : List Place) (left right : List ℕ) (bounds : Bounds) (first low high : List Bounds) → length first ≡ 1
    → length left ≡ length (left ++ right) / 2 → length low ≡ lower_boxes (length (left ++ right)) → IsBounds bounds
    → ((p : Place) → Covers (box_at low 0) p → Covers bounds p) → ((p : Place) → Covers (box_at high 0) p → Covers bounds p)
    → IsCovered places left low → IsCovered places right high → IsCovered places (left ++ right) (set first 0 bounds ++ (low ++ high))
joined places left right bounds [] low high one h g b c d l u = absurd (omega arith)
joined places left right bounds (x ∷ y ∷ rest) low high one h g b c d l u = absurd (omega arith)
joined places left right bounds (x ∷ []) low high one h g b c d l u =
    boxed_node places (left ++ right) (bounds ∷ (low ++ high)) b
    (All-append (λ k. Covers bounds (place_at places k)) left right
    (All-weaker (λ k. Covers (box_at low 0) (place_at places k)) (λ k. Covers bounds (place_at places k)) (λ k v. c (place_at places k) v) left (covered-covers places left low l))
    (All-weaker (λ k. Covers (box_at high 0) (place_at places k)) (λ k. Covers bounds (place_at places k)) (λ k v. d (place_at places k) v) right (covered-covers places right high u)))
    (rw (take_at left right (length (left ++ right) / 2) h, take_at low high (lower_boxes (length (left ++ right))) g) l)
    (rw (drop_at left right (length (left ++ right) / 2) h, drop_at low high (lower_boxes (length (left ++ right))) g) u)

pub leaf : (places : List Place) (order : List ℕ) (b : Bounds) (boxes : List Bounds) → 0 < length boxes → IsBounds b → CoversAll b places order → length order ≤ leaf_places → IsCovered places order (set boxes 0 b)
leaf places order b [] h i c l = absurd (omega arith)
leaf places order b (x ∷ xs) h i c l = boxed_leaf places order (b ∷ xs) i c l

pub upper_enough : (n b m r u : ℕ) → IsEnough n b → m + n / 2 ≡ n → r + 1 ≡ b → u + (2 * (n / 2) / 5 - 1) ≡ r → leaf_places < n → IsEnough m u
upper_enough n b m r u h l f g big = record { some = omega arith; rest = omega arith }

pub lower_enough : (n b m r u : ℕ) → IsEnough n b → m ≡ n / 2 → r + 1 ≡ b → u ≡ 2 * (n / 2) / 5 - 1 → leaf_places < n → IsEnough m u
lower_enough n b m r u h l f g big = record { some = omega arith; rest = omega arith }

pub below_rest : (n b r : ℕ) → IsEnough n b → r + 1 ≡ b → leaf_places < n → 2 * (n / 2) / 5 - 1 ≤ r
below_rest n b r h f big = omega arith

rest_length : (boxes : List Bounds) → 0 < length boxes → length (drop 1 boxes) + 1 ≡ length boxes
rest_length boxes s = omega (arith, length-drop 1 boxes)

pub lower_node : (places : List Place) (order : List ℕ) (boxes : List Bounds) → leaf_places < length order → IsNode places order boxes → IsNode places (take (length order / 2) order) (lower boxes (length order))
lower_node places order boxes big h = record {
  numbers = All-take (λ k. k < length places) (length order / 2) order h.numbers;
  enough =
      lower_enough (length order) (length boxes) (length (take (length order / 2) order)) (length (drop 1 boxes)) (length (lower boxes (length order))) h.enough (length-take-le (length order / 2) order (omega arith))
      (rest_length boxes h.enough.some) (length-take-le (lower_boxes (length order)) (drop 1 boxes) (below_rest (length order) (length boxes) (length (drop 1 boxes)) h.enough (rest_length boxes h.enough.some) big)) big;
  covered = covered-lower places order boxes h.covered big;
}

pub upper_node : (places : List Place) (order : List ℕ) (boxes : List Bounds) → leaf_places < length order → IsNode places order boxes → IsNode places (drop (length order / 2) order) (upper boxes (length order))
upper_node places order boxes big h = record {
  numbers = All-drop (λ k. k < length places) (length order / 2) order h.numbers;
  enough =
      let m : length (drop (length order / 2) order) + length order / 2 ≡ length order = omega (arith, length-drop (length order / 2) order) in
      let r = rest_length boxes h.enough.some in
      let w : lower_boxes (length order) ≤ length (drop 1 boxes) = below_rest (length order) (length boxes) (length (drop 1 boxes)) h.enough r big in
      let u : length (upper boxes (length order)) + lower_boxes (length order) ≡ length (drop 1 boxes) = omega (arith, length-drop (lower_boxes (length order)) (drop 1 boxes), w) in
      upper_enough (length order) (length boxes) (length (drop (length order / 2) order)) (length (drop 1 boxes)) (length (upper boxes (length order))) h.enough m r u big;
  covered = covered-upper places order boxes h.covered big;
}
