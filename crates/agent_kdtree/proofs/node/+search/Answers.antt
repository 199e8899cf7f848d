use Rattle.std.proofs.Common.{ℕ, List, sym, ap, ◌∙◌, refl, get_or}
use Rattle.crowd_data.specs.Neighbours.{Seen}
use Rattle.agent_kdtree.specs.Gather.{gather}
use Rattle.agent_kdtree.specs.Seen.{seen_all}
use Rattle.agent_kdtree.proofs.Gather.{gather-append, gather-comm, gather-skips}
use Rattle.agent_kdtree.proofs.node.+search.Goals as goal

pub returns-then-is_closed-clause-value : goal.returns-then-is_closed-clause-value
returns-then-is_closed-clause-value t c =
    sym (gather-skips c.args.places.now c.args.query.now c.args.order.now (seen_all c.args.best.now.items)
    (λ j d h. c.if-is_closed.ensures.closed refl c.args.places.now (get_or c.args.order.now j d) (c.requires.far j d h)))

pub returns-then-left_far-right_far-clause-value : goal.returns-then-left_far-right_far-clause-value
returns-then-left_far-right_far-clause-value t c =
    c.search-then-left_far-right_far.ensures.value
    ∙ ap (λ (s : List Seen). gather c.args.places.now c.args.query.now c.halves.result.2.now s) c.search.ensures.value
    ∙ sym (gather-append c.args.places.now c.args.query.now c.halves.result.0.now c.halves.result.2.now (seen_all c.args.best.now.items))
    ∙ ap (λ (s : List ℕ). gather c.args.places.now c.args.query.now s (seen_all c.args.best.now.items)) (sym c.halves.ensures.order)

pub returns-else-left_far-right_far-clause-value : goal.returns-else-left_far-right_far-clause-value
returns-else-left_far-right_far-clause-value t c =
    c.search-else-left_far-right_far-2.ensures.value
    ∙ ap (λ (s : List Seen). gather c.args.places.now c.args.query.now c.halves.result.0.now s) c.search-else-left_far-right_far.ensures.value
    ∙ gather-comm c.args.places.now c.args.query.now c.halves.result.2.now c.halves.result.0.now (seen_all c.args.best.now.items)
    ∙ sym (gather-append c.args.places.now c.args.query.now c.halves.result.0.now c.halves.result.2.now (seen_all c.args.best.now.items))
    ∙ ap (λ (s : List ℕ). gather c.args.places.now c.args.query.now s (seen_all c.args.best.now.items)) (sym c.halves.ensures.order)
