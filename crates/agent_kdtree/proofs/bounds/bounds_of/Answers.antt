use Rattle.std.proofs.Common.{ℕ, take, List, subst, rules}
use Rattle.std.proofs.lemmas.List.{take_all}
use Rattle.std.proofs.lemmas.List.Elements.{All-more, All-weaker}
use Rattle.crowd_data.specs.Neighbours.{place_at}
use Rattle.agent_kdtree.specs.Boxes.{Covers, CoversAll}
use Rattle.agent_kdtree.proofs.bounds.bounds_of.Goals as goal

pub loop-k-preserved : goal.loop-k-preserved
loop-k-preserved c = record {
  bounds = c.widened-bounds.ensures.bounds;
  covers =
      All-more (λ k. Covers c.widened-bounds.result (place_at c.args.places.now k)) c.args.order.now c.loop-k.k-index 0 c.loop-k-test.true
      (All-weaker (λ k. Covers c.loop-k.bounds (place_at c.args.places.now k)) (λ k. Covers c.widened-bounds.result (place_at c.args.places.now k))
      (λ k h. c.widened-bounds.ensures.others (place_at c.args.places.now k) h) (take c.loop-k.k-index c.args.order.now) c.loop-k.invariant.covers)
      (let h = c.widened-bounds.ensures.place in search rules);
}

pub returns-clause-covers : goal.returns-clause-covers
returns-clause-covers c =
    subst (λ (t : List ℕ). CoversAll c.loop-k.bounds c.args.places.now t) (take_all c.loop-k.k-index c.args.order.now c.loop-k-test.false) c.loop-k.invariant.covers
