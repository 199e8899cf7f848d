use Rattle.std.proofs.Common.{◌<◌, ◌-◌, get_or, length, ap, arith}
use Rattle.std.proofs.lemmas.Bool.Decides.{nat_tests}
use Rattle.std.proofs.lemmas.List.{get_or-map, length-map}
use Rattle.crowd_data.specs.Neighbours.{Seen}
use Rattle.agent_kdtree.specs.declared.near.Near.{Near}
use Rattle.agent_kdtree.specs.Seen.{seen_all, seen_of}
use Rattle.agent_kdtree.proofs.Gather.{offer_beyond, offer_far}
use Rattle.agent_kdtree.proofs.query.is_closed.Goals as goal

pub returns-then-far-squared_range-clause-closed : goal.returns-then-far-squared_range-clause-closed
returns-then-far-squared_range-clause-closed c = λ _ places k h. offer_beyond places c.args.query.now k (seen_all c.args.best.now.items) (omega (arith, c.squared_range.ensures))

pub returns-then-full-gt0-clause-closed : goal.returns-then-full-gt0-clause-closed
returns-then-full-gt0-clause-closed c = λ t places k h.
    let d : Near = record { agent = 0; dist = 0 } in
    let u : (get_or c.deref.result.now (c.len-full.result - 1) d).dist < c.args.far = grind (arith, nat_tests) in
    let v = rw (c.deref.ensures.0, c.if-full-gt0.true.0) at u in
    let within : c.args.query.now.most - 1 < length c.args.best.now.items = omega arith in
    let last = ap (λ (s : Seen). s.dist) (get_or-map seen_of c.args.best.now.items (c.args.query.now.most - 1) d (seen_of d) within) in
    offer_far places c.args.query.now k (seen_all c.args.best.now.items) (seen_of d) c.requires.rises (omega arith) (rw (length-map c.args.best.now.items seen_of) (omega (arith, c.len-full.ensures.value))) (omega (arith, last, v, h))
