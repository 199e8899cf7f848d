use Rattle.std.proofs.Common.{◌∙◌, ap, sym, List, ◌++◌, arith}
use Rattle.crowd_data.specs.Neighbours.{Seen}
use Rattle.std.specs.List.{slice_range}
use Rattle.agent_kdtree.specs.Keys.{seen_in_range}
use Rattle.agent_kdtree.proofs.Sweeping.{skipped, taken}
use Rattle.agent_kdtree.proofs.grid.sweep_row.Goals as goal

pub returns-clause-value : goal.returns-clause-value
returns-clause-value c =
    let p = c.in_ok-from.ensures in
    let places = c.args.places.now in
    let q = c.args.query.now in
    let order = c.args.order.now in
    let start = c.requires.grid.begins c.args.first p.first_in in
    let here = skipped places q order c.args.done c.in_ok-from.from p.behind
    (λ j a b l. c.requires.earlier j a l (start.before j (omega (arith, b, p.begins)))) in
    c.collect-count.ensures.value
    ∙ ap (λ (s : List Seen). s ++ seen_in_range places q (slice_range order c.in_ok-from.from c.in_ok-from.to)) (c.requires.so_far ∙ sym here)
    ∙ taken places q order c.in_ok-from.from c.in_ok-from.to p.ordered
