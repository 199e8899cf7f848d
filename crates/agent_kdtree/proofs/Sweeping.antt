-- Places in cells outside of a window are out of range.
use Rattle.std.proofs.Common.{◌≡◌, ◌⊎◌, inr, ⊎_elim, ◌∙◌, ℕ, ◌+◌, ◌-◌, ◌*◌, ◌<◌, ◌≤◌, Bool, true, false, cond, List, [], ◌∷◌, ◌++◌, append-nil, refl, length, take, drop, get_or, sym, ap, subst, arith, ℤ, pos, ◌+ℤ◌, ◌-ℤ◌, ◌≤ℤ◌, unsigned_abs}
use Rattle.std.specs.List.{All, slice_range}
use Rattle.std.proofs.lemmas.Int.{ints}
use Rattle.std.proofs.lemmas.List.{get_or_default, get_or-drop, get_or-take, length-drop, length-take, take_all}
use Rattle.std.proofs.Math.Seq.{take-add}
use Rattle.crowd_data.specs.declared.pair.Place.{Place}
use Rattle.crowd_data.specs.Neighbours.{Seen, is_in_range, place_at, squared_gap}
use Rattle.fixed_vec.specs.declared.vector.V2.{V2}
use Rattle.agent_kdtree.specs.declared.cell.Mesh.{Mesh}
use Rattle.agent_kdtree.specs.declared.grid.Window.{Window}
use Rattle.agent_kdtree.specs.declared.query.Query.{Query}
use Rattle.agent_kdtree.specs.Cells.{IsOutOfRange, IsInMesh, cell_at, column_of, row_of}
use Rattle.agent_kdtree.specs.Windows.{IsWindow}
use Rattle.agent_kdtree.specs.Gather.{seen_at}
use Rattle.agent_kdtree.specs.Keys.{seen_in_range}
use Rattle.agent_kdtree.proofs.CellLines.{before_piece, behind_pieces, between_pieces}
use Rattle.agent_kdtree.proofs.Gather.{out_of_range}
use Rattle.std.proofs.lemmas.List.Elements.{All-head, All-tail}
use Rattle.agent_kdtree.proofs.SquaredGap.{squared_gap-least}

-- ---- skipping what is out of range

module _ (places : List Place) (q : Query) where
  pub seen_in_range-append : (xs ys : List ℕ) → seen_in_range places q (xs ++ ys) ≡ seen_in_range places q xs ++ seen_in_range places q ys
  seen_in_range-append [] ys = refl
  seen_in_range-append (x ∷ xs) ys = by (is_in_range q.who q.range (seen_at places q.at x)) (seen_in_range-append xs ys)
    where
      by : (b : Bool) → seen_in_range places q (xs ++ ys) ≡ seen_in_range places q xs ++ seen_in_range places q ys
          → cond b (seen_at places q.at x ∷ seen_in_range places q (xs ++ ys)) (seen_in_range places q (xs ++ ys)) ≡ cond b (seen_at places q.at x ∷ seen_in_range places q xs) (seen_in_range places q xs) ++ seen_in_range places q ys
      by true e = ap (λ (l : List Seen). seen_at places q.at x ∷ l) e
      by false e = e

  none_in_range : (xs : List ℕ) → All (IsOutOfRange places q) xs → seen_in_range places q xs ≡ []
  none_in_range [] h = refl
  none_in_range (x ∷ xs) h =
      let out : is_in_range q.who q.range (seen_at places q.at x) ≡ false = out_of_range q.who q.range (seen_at places q.at x) (All-head (IsOutOfRange places q) x xs h) in
      rw out (none_in_range xs (All-tail (IsOutOfRange places q) x xs h))

  module _ (order : List ℕ) where
    -- the numbers from a place up to another are out of range
    abbrev Skipped : ℕ → ℕ → Type 0
    Skipped from to = (j : ℕ) → from ≤ j → j < to → j < length order → IsOutOfRange places q (get_or order j 0)

    beyond_piece : (from n : ℕ) → Skipped from (from + n) → All (IsOutOfRange places q) (take n (drop from order))
    beyond_piece from n h = λ k d in'.
        let a : k < n = omega (arith, in', length-take n (drop from order)) in
        let b : k < length (drop from order) = omega (arith, in', length-take n (drop from order)) in
        let c : from + k < length order = omega (arith, b, length-drop from order) in
        let e : get_or (take n (drop from order)) k d ≡ get_or order (from + k) d = get_or-take n (drop from order) k d a ∙ get_or-drop from order k d in
        let f : get_or order (from + k) d ≡ get_or order (from + k) 0 = get_or_default order (from + k) d 0 c in
        subst (λ (i : ℕ). IsOutOfRange places q i) (sym (e ∙ f)) (h (from + k) (omega arith) (omega arith) c)

    split_at : (from to : ℕ) → from ≤ to → take to order ≡ take from order ++ take (to - from) (drop from order)
    split_at from to le = let n : from + (to - from) ≡ to = omega arith in ap (λ m. take m order) (sym n) ∙ take-add from (to - from) order

    pub skipped : (from to : ℕ) → from ≤ to → Skipped from to → seen_in_range places q (take to order) ≡ seen_in_range places q (take from order)
    skipped from to le h =
        ap (seen_in_range places q) (split_at from to le)
        ∙ seen_in_range-append (take from order) (take (to - from) (drop from order))
        ∙ ap (λ (l : List Seen). seen_in_range places q (take from order) ++ l) (none_in_range (take (to - from) (drop from order)) (beyond_piece from (to - from) (λ j a b c. h j a (omega arith) c)))
        ∙ append-nil (seen_in_range places q (take from order))

    pub skipped_rest : (from : ℕ) → from ≤ length order → Skipped from (length order) → seen_in_range places q order ≡ seen_in_range places q (take from order)
    skipped_rest from le h = ap (seen_in_range places q) (sym (take_all (length order) order (omega arith))) ∙ skipped from (length order) le h

    pub taken : (from to : ℕ) → from ≤ to → seen_in_range places q (take from order) ++ seen_in_range places q (slice_range order from to) ≡ seen_in_range places q (take to order)
    taken from to le = sym (ap (seen_in_range places q) (split_at from to le) ∙ seen_in_range-append (take from order) (take (to - from) (drop from order)))

-- ---- outside of the window

module _ (places : List Place) (mesh : Mesh) (q : Query) (w : Window) (window : IsWindow mesh q w) where
  apart : (v : V2) (m n : ℕ) → m ≤ unsigned_abs (v.x -ℤ q.at.x) → n ≤ unsigned_abs (v.y -ℤ q.at.y) → m * m + n * n ≤ squared_gap v q.at
  apart v m n h k = squared_gap-least v q.at m n h k

  column_beyond : (v : V2) → IsInMesh mesh v → (w.right < column_of mesh v) ⊎ (column_of mesh v < w.left) → q.range * q.range ≤ squared_gap v q.at
  column_beyond v h out = ⊎_elim
      (λ a. let f = window.right v.x h.left a h.column in omega (arith, apart v q.range 0 (far v.x q.at.x q.range f) (omega arith)))
      (λ b. let f = window.left v.x h.left b in omega (arith, apart v q.range 0 (near v.x q.at.x q.range f) (omega arith)))
      out
    where
      far : (z a : ℤ) (n : ℕ) → (a +ℤ pos n) ≤ℤ z → n ≤ unsigned_abs (z -ℤ a)
      far z a n h = omega (arith, ints)

      near : (z a : ℤ) (n : ℕ) → (z +ℤ pos n) ≤ℤ a → n ≤ unsigned_abs (z -ℤ a)
      near z a n h = omega (arith, ints)

  row_below : (v : V2) → IsInMesh mesh v → row_of mesh v < w.bottom → q.range * q.range ≤ squared_gap v q.at
  row_below v h b = let f = window.below v.y h.below b in omega (arith, apart v 0 q.range (omega arith) (near v.y q.at.y q.range f))
    where
      near : (z a : ℤ) (n : ℕ) → (z +ℤ pos n) ≤ℤ a → n ≤ unsigned_abs (z -ℤ a)
      near z a n h = omega (arith, ints)

  row_above : (v : V2) → IsInMesh mesh v → w.top < row_of mesh v → q.range * q.range ≤ squared_gap v q.at
  row_above v h b = let f = window.above v.y h.below b h.row in omega (arith, apart v 0 q.range (omega arith) (far v.y q.at.y q.range f))
    where
      far : (z a : ℤ) (n : ℕ) → (a +ℤ pos n) ≤ℤ z → n ≤ unsigned_abs (z -ℤ a)
      far z a n h = omega (arith, ints)

  module _ (order : List ℕ) (in_mesh : All (λ k. IsInMesh mesh (place_at places k).pos) order) where
    at : ℕ → V2
    at j = (place_at places (get_or order j 0)).pos

    pub beyond_first : (j : ℕ) → j < length order → cell_at places mesh order j < w.bottom * mesh.columns + w.left → IsOutOfRange places q (get_or order j 0)
    beyond_first j l h =
        let v = (place_at places (get_or order j 0)).pos in
        let in' = in_mesh j 0 l in
        ⊎_elim (λ a. row_below v in' a) (λ b. column_beyond v in' (inr b)) (before_piece (row_of mesh v) w.bottom (column_of mesh v) mesh.columns w.left in'.column h window.columns)

    pub beyond_next : (row j : ℕ) → j < length order → row * mesh.columns + w.right + 1 ≤ cell_at places mesh order j → cell_at places mesh order j < (row + 1) * mesh.columns + w.left → IsOutOfRange places q (get_or order j 0)
    beyond_next row j l h k =
        let v = (place_at places (get_or order j 0)).pos in
        let in' = in_mesh j 0 l in
        column_beyond v in' (between_pieces (row_of mesh v) row (column_of mesh v) mesh.columns w.left w.right in'.column h k)

    pub beyond_last : (row j : ℕ) → w.top < row → j < length order → row * mesh.columns + w.left ≤ cell_at places mesh order j → IsOutOfRange places q (get_or order j 0)
    beyond_last row j past l h =
        let v = (place_at places (get_or order j 0)).pos in
        let in' = in_mesh j 0 l in
        row_above v in' (omega (arith, past, behind_pieces (row_of mesh v) row (column_of mesh v) mesh.columns w.left in'.column h))
