use Rattle.std.proofs.Common.{List, ℕ, Bool, true, false, refl, subst}
use Rattle.std.specs.List.{All}
use Rattle.std.specs.Prelude.{IsTrue, IsFalse}
use Rattle.agent_kdtree.specs.Missed.{IsMissed}
use Rattle.agent_kdtree.specs.Seen.{agents_of}
use Rattle.agent_kdtree.proofs.MissedAgents.{misses_none}
use Rattle.agent_kdtree.proofs.Stands.{root}
use Rattle.agent_kdtree.proofs.tree.Tree.misses_near.Goals as goal

decided : {P : Type 0} (b : Bool) → (IsFalse b → ¬ P) → P → IsTrue b
decided true f p = refl
decided false f p = absurd (f refl p)

pub misses_below-requires-clause-node : goal.misses_below-requires-clause-node
misses_below-requires-clause-node c = rw (c.deref.ensures.value, c.deref-2.ensures.value) (root c.args.self.now c.args.places.now c.requires.stands)

pub returns : goal.returns
returns c = (
  c.misses_below.ensures.found,
  decided c.misses_below.result (λ f m.
      let none = subst (λ (t : List ℕ). All (λ k. ¬ IsMissed c.args.places.now c.args.who (agents_of c.args.near.now) k) t) c.deref.ensures.value (c.misses_below.ensures.none f) in
      misses_none c.args.places.now c.args.who (agents_of c.args.near.now) c.args.self.now.order.items c.requires.stands.room.order none m),
)
