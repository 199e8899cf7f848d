use Rattle.std.proofs.Common.{List, ℕ, subst, ◌∙◌, sym}
use Rattle.std.proofs.lemmas.Bool.{false≢true}
use Rattle.std.proofs.lemmas.List.{take_all}
use Rattle.std.proofs.lemmas.List.Elements.{All-more}
use Rattle.std.specs.List.{All}
use Rattle.agent_kdtree.specs.Missed.{IsMissed}
use Rattle.agent_kdtree.specs.Seen.{agents_of}
use Rattle.agent_kdtree.proofs.missed.misses_among.Goals as goal

pub loop-k-preserved : goal.loop-k-preserved
loop-k-preserved c =
    All-more (λ k. ¬ IsMissed c.args.places.now c.args.who (agents_of c.args.near.now) k) c.args.order.now c.loop-k.k-index 0 c.loop-k-test.true c.loop-k.invariant
    (λ m. false≢true (sym c.if-is_missed.false ∙ c.is_missed.ensures.1 m))

pub returns-clause-none : goal.returns-clause-none
returns-clause-none c = λ _.
    subst (λ (t : List ℕ). All (λ k. ¬ IsMissed c.args.places.now c.args.who (agents_of c.args.near.now) k) t) (take_all c.loop-k.k-index c.args.order.now c.loop-k-test.false) c.loop-k.invariant
