use Rattle.std.proofs.Common.{◌≡◌, ◌∙◌, sym, add-one, get_or, true, false}
use Rattle.std.proofs.lemmas.List.{get_or-map, length-map}
use Rattle.crowd_data.specs.Neighbours.{is_before}
use Rattle.agent_kdtree.specs.declared.near.Near.{Near}
use Rattle.agent_kdtree.specs.Seen.{seen_all, seen_of}
use Rattle.agent_kdtree.proofs.Order.{placed_here, placed_later}
use Rattle.agent_kdtree.proofs.Seen.{seen_all-insert}
use Rattle.agent_kdtree.proofs.near.place_for.Goals as goal

pub returns-then-comes_before-clause-value : goal.returns-then-comes_before-clause-value
returns-then-comes_before-clause-value c =
    let d : Near = record { agent = 0; dist = 0 } in
    let l = seen_all c.args.items.now in
    let before : is_before (seen_of c.args.near.now) (get_or l c.loop-i.i (seen_of d)) ≡ true = rw (get_or-map seen_of c.args.items.now c.loop-i.i d (seen_of d) c.loop-i-test.true) (sym c.if-comes_before.ensures) in
    c.loop-i.invariant ∙ placed_here (seen_of c.args.near.now) l c.loop-i.i (seen_of d) (rw length-map c.loop-i-test.true) before ∙ sym (seen_all-insert c.args.items.now c.loop-i.i c.args.near.now)

pub loop-i-preserved : goal.loop-i-preserved
loop-i-preserved c =
    let d : Near = record { agent = 0; dist = 0 } in
    let l = seen_all c.args.items.now in
    let later : is_before (seen_of c.args.near.now) (get_or l c.loop-i.i (seen_of d)) ≡ false = rw (get_or-map seen_of c.args.items.now c.loop-i.i d (seen_of d) c.loop-i-test.true) (sym c.if-comes_before.ensures) in
    rw add-one (c.loop-i.invariant ∙ placed_later (seen_of c.args.near.now) l c.loop-i.i (seen_of d) (rw length-map c.loop-i-test.true) later)
