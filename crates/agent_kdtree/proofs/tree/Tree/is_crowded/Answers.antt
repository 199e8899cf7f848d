use Rattle.std.proofs.Common.{◌≡◌, Bool, true, false, not}
use Rattle.std.specs.Prelude.{IsTrue}
use Rattle.agent_kdtree.proofs.Complete.{none_unseen}
use Rattle.agent_kdtree.proofs.Stands.{root}
use Rattle.agent_kdtree.proofs.tree.Tree.is_crowded.Goals as goal

pub near_distance_below-touching-requires-clause-node : goal.near_distance_below-touching-requires-clause-node
near_distance_below-touching-requires-clause-node c = rw (c.deref.ensures.value, c.deref-2.ensures.value) (root c.args.self.now c.args.places.now c.requires.stands)

ruled_out : {P : Type 0} (r : Bool) → r ≡ true → ¬ P → (IsTrue (not r) → P) × (P → IsTrue (not r))
ruled_out true e f = (λ t. absurd (let w : false ≡ true = t in cc), λ p. absurd (f p))
ruled_out false e f = absurd (cc)

pub returns-else-not-lists_all_within : goal.returns-else-not-lists_all_within
returns-else-not-lists_all_within c =
    let e = c.near_distance_below-touching.ensures.value in
    let f = rw c.deref-2.ensures.value at e in
    ruled_out c.lists_all_within.result c.if-not-lists_all_within.false
    (none_unseen c.args.places.now c.args.who c.args.range c.args.most c.args.self.now c.args.near.now c.near_distance_below-touching.result c.requires.near c.requires.stands f (c.lists_all_within.ensures c.if-not-lists_all_within.false))
