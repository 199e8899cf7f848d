use Rattle.std.proofs.Common.{◌≡◌, ℕ, ◌+◌, ◌-◌, ◌*◌, ◌/◌, ◌<◌, List, ◌++◌, length, sym, subst, arith}
use Rattle.std.specs.List.{All}
use Rattle.std.specs.List.Sorted.{IsPermutation}
use Rattle.std.proofs.lemmas.List.Elements.{All-take, All-drop}
use Rattle.std.proofs.lemmas.List.Sorted.{All-permutation, IsPermutation-append, IsPermutation-trans, length_permutation}
use Rattle.agent_kdtree.specs.Boxes.{lower_boxes}
use Rattle.agent_kdtree.proofs.Coverings.{upper_enough, leaf, covered-bounds, joined}
use Rattle.agent_kdtree.proofs.node.+build.Goals as goal

pub build-requires : goal.build-requires
build-requires t c =
    let below = All-permutation (λ (k : ℕ). k < length c.args.places.now) c.args.order.now c.arrange.new.order c.arrange.ensures c.requires.order in
    let same : length c.arrange.new.order ≡ length c.args.order.now = length_permutation _ _ c.arrange.ensures in (
      omega arith,
      (
        c.requires.placed,
        (
          subst (λ (s : List ℕ). All (λ (k : ℕ). k < length c.args.places.now) s) (sym c.split_at_mut-left.ensures.front) (All-take (λ (k : ℕ). k < length c.args.places.now) _ c.arrange.new.order below),
          record { some = omega arith; rest = omega arith },
        ),
      ),
    )

pub build-requires-then-order-gt-LEAF : goal.build-requires-then-order-gt-LEAF
build-requires-then-order-gt-LEAF t c =
    let below = All-permutation (λ (k : ℕ). k < length c.args.places.now) c.args.order.now c.arrange.new.order c.arrange.ensures c.requires.order in
    let same : length c.arrange.new.order ≡ length c.args.order.now = length_permutation _ _ c.arrange.ensures in
    let l : length c.split_at_mut-left.result.1.now + length c.args.order.now / 2 ≡ length c.args.order.now = rw same at c.split_at_mut-left.ensures.back_len in
    let b : length c.split_at_mut-first.result.1.now + 1 ≡ length c.args.boxes.now = c.split_at_mut-first.ensures.back_len in
    let u : length c.split_at_mut-lower.result.1.now + (2 * (length c.args.order.now / 2) / 5 - 1) ≡ length c.split_at_mut-first.result.1.now = rw same at c.split_at_mut-lower.ensures.back_len in
    let e = upper_enough (length c.args.order.now) (length c.args.boxes.now) (length c.split_at_mut-left.result.1.now) (length c.split_at_mut-first.result.1.now) (length c.split_at_mut-lower.result.1.now) c.requires.enough l b u c.if-order-gt-LEAF.true in (
      omega arith,
      (
        c.requires.placed,
        (
          subst (λ (s : List ℕ). All (λ (k : ℕ). k < length c.args.places.now) s) (sym c.split_at_mut-left.ensures.back) (All-drop (λ (k : ℕ). k < length c.args.places.now) _ c.arrange.new.order below),
          e,
        ),
      ),
    )

pub returns-then-order-gt-LEAF-clause-permutation : goal.returns-then-order-gt-LEAF-clause-permutation
returns-then-order-gt-LEAF-clause-permutation t c =
    let p = IsPermutation-append _ _ _ _ c.build.ensures.permutation c.build-then-order-gt-LEAF.ensures.permutation in
    let whole : c.split_at_mut-left.result.0.now ++ c.split_at_mut-left.result.1.now ≡ c.arrange.new.order = sym c.split_at_mut-left.ensures.value in
    IsPermutation-trans _ c.arrange.new.order _ c.arrange.ensures (subst (λ (s : List ℕ). IsPermutation s (c.build.new.order ++ c.build-then-order-gt-LEAF.new.order)) whole p)

pub returns-then-order-gt-LEAF-clause-covered : goal.returns-then-order-gt-LEAF-clause-covered
returns-then-order-gt-LEAF-clause-covered t c =
    let p = IsPermutation-append _ _ _ _ c.build.ensures.permutation c.build-then-order-gt-LEAF.ensures.permutation in
    let whole : c.split_at_mut-left.result.0.now ++ c.split_at_mut-left.result.1.now ≡ c.arrange.new.order = sym c.split_at_mut-left.ensures.value in
    let q = IsPermutation-trans _ c.arrange.new.order _ c.arrange.ensures (subst (λ (s : List ℕ). IsPermutation s (c.build.new.order ++ c.build-then-order-gt-LEAF.new.order)) whole p) in
    let same : length c.arrange.new.order ≡ length c.args.order.now = length_permutation _ _ c.arrange.ensures in
    let n : length (c.build.new.order ++ c.build-then-order-gt-LEAF.new.order) ≡ length c.args.order.now = length_permutation _ _ q in
    let h : length c.build.new.order ≡ length (c.build.new.order ++ c.build-then-order-gt-LEAF.new.order) / 2 = omega arith in
    let g : length c.build.new.boxes ≡ lower_boxes (length (c.build.new.order ++ c.build-then-order-gt-LEAF.new.order)) = omega arith in
    joined c.args.places.now c.build.new.order c.build-then-order-gt-LEAF.new.order c.union.result c.split_at_mut-first.result.0.now c.build.new.boxes c.build-then-order-gt-LEAF.new.boxes c.split_at_mut-first.ensures.front_len h g
    c.union.ensures.bounds c.union.ensures.first c.union.ensures.second c.build.ensures.covered c.build-then-order-gt-LEAF.ensures.covered

pub union-requires-clause-first : goal.union-requires-clause-first
union-requires-clause-first t c = covered-bounds c.args.places.now c.build.new.order c.build.new.boxes c.build.ensures.covered

pub union-requires-clause-second : goal.union-requires-clause-second
union-requires-clause-second t c = covered-bounds c.args.places.now c.build-then-order-gt-LEAF.new.order c.build-then-order-gt-LEAF.new.boxes c.build-then-order-gt-LEAF.ensures.covered

pub returns-else-order-gt-LEAF-clause-covered : goal.returns-else-order-gt-LEAF-clause-covered
returns-else-order-gt-LEAF-clause-covered t c = leaf c.args.places.now c.args.order.now c.bounds_of.result c.args.boxes.now c.requires.enough.some c.bounds_of.ensures.bounds c.bounds_of.ensures.covers c.if-order-gt-LEAF.false
