use Rattle.std.proofs.Common.{◌≡◌, ◌∙◌, ap, sym, List, ℕ, subst, length, arith}
use Rattle.std.proofs.lemmas.List.{with_items_is}
use Rattle.std.proofs.lemmas.List.Sorted.{IsPermutation-trans}
use Rattle.std.specs.List.Sorted.{IsPermutation}
use Rattle.agent_kdtree.specs.declared.bounds.Bounds.{Bounds}
use Rattle.crowd_data.specs.Neighbours.{numbers}
use Rattle.agent_kdtree.specs.Boxes.{IsNode}
use Rattle.agent_kdtree.proofs.Stands.{order-below, order-length, stands_for}
use Rattle.agent_kdtree.proofs.tree.Tree.rebuild.Goals as goal
use Rattle.agent_kdtree.proofs.tree.Tree.rebuild.Goals.{After-deref-2}

pub build-requires-clause-order : goal.build-requires-clause-order
build-requires-clause-order c = rw c.deref_mut.ensures.value (order-below (length c.args.places.now) c.args.self.now.order.items c.requires.room.order)

pub build-requires-clause-enough : goal.build-requires-clause-enough
build-requires-clause-enough c =
    let e : length c.args.self.now.order.items ≡ length c.args.places.now = order-length (length c.args.places.now) c.args.self.now.order.items c.requires.room.order in
    rw (c.deref_mut.ensures.value, c.deref_mut-2.ensures.value, e) c.requires.room.boxes

-- ---- what is built, as the layout reads it
module _ (c : After-deref-2) where
  abbrev count : ℕ
  count = length c.args.places.now

  order-is : c.deref.result.now ≡ c.build.new.order
  order-is = c.deref.ensures.value ∙ with_items_is c.args.self.now.order c.build.new.order (omega arith)

  boxes-are : c.deref-2.result.now ≡ c.build.new.boxes
  boxes-are = c.deref-2.ensures.value ∙ with_items_is c.args.self.now.boxes c.build.new.boxes (omega arith)

  numbered : IsPermutation (numbers count) c.build.new.order
  numbered = IsPermutation-trans _ _ _ c.requires.room.order (subst (λ (t : List ℕ). IsPermutation t c.build.new.order) c.deref_mut.ensures.value c.build.ensures.permutation)

  as-many : length c.build.new.boxes ≡ length c.args.self.now.boxes.items
  as-many = omega (arith, ap (λ (t : List Bounds). length t) c.deref_mut-2.ensures.value)

  node : IsNode c.args.places.now c.build.new.order c.build.new.boxes
  node = record {
    numbers = order-below count c.build.new.order numbered;
    enough = rw (order-length count c.build.new.order numbered, as-many) c.requires.room.boxes;
    covered = c.build.ensures.covered;
  }

pub rebuild-requires-clause-permutation : goal.rebuild-requires-clause-permutation
rebuild-requires-clause-permutation c = subst (λ (t : List ℕ). IsPermutation (numbers (count c)) t) (sym (order-is c)) (numbered c)

pub rebuild-requires-clause-node : goal.rebuild-requires-clause-node
rebuild-requires-clause-node c =
    subst (λ (t : List ℕ). IsNode c.args.places.now t c.deref-2.result.now) (sym (order-is c))
    (subst (λ (t : List Bounds). IsNode c.args.places.now c.build.new.order t) (sym (boxes-are c)) (node c))

pub returns : goal.returns
returns c =
    let built = (goal.at.returns c).After-deref-2 in
    let order = with_items_is c.args.self.now.order c.build.new.order (omega arith) in
    let boxes = with_items_is c.args.self.now.boxes c.build.new.boxes (omega arith) in
    record { stands = stands_for _ c.args.places.now c.build.new.order c.build.new.boxes order boxes (numbered built) (rw (as-many built) c.requires.room.boxes) c.requires.placed c.build.ensures.covered c.rebuild.ensures.numbers c.rebuild.ensures.by_cell }
