use Rattle.std.proofs.Common.{ℕ, sym, ap, ◌∙◌, take, get_or, List, [], ◌∷◌}
use Rattle.std.proofs.lemmas.List.{take_more}
use Rattle.crowd_data.specs.Neighbours.{Seen}
use Rattle.agent_kdtree.specs.Gather.{gather, offer}
use Rattle.agent_kdtree.specs.Seen.{seen_all}
use Rattle.agent_kdtree.proofs.Gather.{gather-append, offer-rises}
use Rattle.agent_kdtree.proofs.query.consider_all.Goals as goal

pub loop-k-preserved : goal.loop-k-preserved
loop-k-preserved c =
    let start = seen_all c.args.best.now.items in
    let k : ℕ = get_or c.args.order.now c.loop-k.k-index 0 in record {
      value =
          c.consider.ensures.value ∙ ap (λ (t : List Seen). offer c.args.places.now c.args.query.now k t) c.loop-k.invariant.value
          ∙ sym (ap (λ (t : List ℕ). gather c.args.places.now c.args.query.now t start) (take_more c.args.order.now c.loop-k.k-index 0 c.loop-k-test.true)
          ∙ gather-append c.args.places.now c.args.query.now (take c.loop-k.k-index c.args.order.now) (k ∷ []) start);
      room = c.consider.ensures.room;
      rises = rw c.consider.ensures.value (offer-rises c.args.places.now c.args.query.now _ (seen_all c.loop-k.best.items) c.loop-k.invariant.rises);
    }
