use Rattle.std.proofs.Common.{◌∙◌, ◌^◌, arith, sym, subst}
use Rattle.exact_algebra.proofs.Tests.{le_false, le_true}
use Rattle.fixed_vec.specs.declared.vector.V2.{V2}
use Rattle.fixed_vec.specs.Vector.{IsBelow}
use Rattle.fixed_vec.proofs.Lengths.{coordinates_le}
use Rattle.controller_turns.proofs.Lengths.{length_small, length_some, read_coordinate, way_small, within_pace}
use Rattle.controller_turns.proofs.headings.heading.Goals as goal

pub returns-then-is_reached-clause-velocity : goal.returns-then-is_reached-clause-velocity
returns-then-is_reached-clause-velocity c =
    let within = within_pace c.minus-way.result c.args.goal.now.pace (le_true _ _ (sym c.is_reached.ensures ∙ c.if-is_reached.true)) in
    (omega (arith, within.0, c.requires.pace), omega (arith, within.1, c.requires.pace))

pub scaled-requires-clause-coordinate : goal.scaled-requires-clause-coordinate
scaled-requires-clause-coordinate c =
    let way = c.minus-way.result in
    let small : IsBelow way (2 ^ 32) = subst (λ (v : V2). IsBelow v (2 ^ 32)) (sym c.minus-way.ensures) (way_small c.args.goal.now.at c.args.pos c.requires.at c.requires.pos) in
    omega (arith, read_coordinate way.x small.0, (coordinates_le way).0, c.length_of-length.ensures)

pub scaled-requires-clause-length : goal.scaled-requires-clause-length
scaled-requires-clause-length c =
    let way = c.minus-way.result in
    let small : IsBelow way (2 ^ 32) = subst (λ (v : V2). IsBelow v (2 ^ 32)) (sym c.minus-way.ensures) (way_small c.args.goal.now.at c.args.pos c.requires.at c.requires.pos) in
    let some = length_some way c.args.goal.now.pace (le_false _ _ (sym c.is_reached.ensures ∙ c.if-is_reached.false)) in
    (omega (arith, some, c.length_of-length.ensures), omega (arith, length_small way small, c.length_of-length.ensures))

pub scaled-requires-2-clause-coordinate : goal.scaled-requires-2-clause-coordinate
scaled-requires-2-clause-coordinate c =
    let way = c.minus-way.result in
    let small : IsBelow way (2 ^ 32) = subst (λ (v : V2). IsBelow v (2 ^ 32)) (sym c.minus-way.ensures) (way_small c.args.goal.now.at c.args.pos c.requires.at c.requires.pos) in
    omega (arith, read_coordinate way.y small.1, (coordinates_le way).1, c.length_of-length.ensures)

pub scaled-requires-2-clause-length : goal.scaled-requires-2-clause-length
scaled-requires-2-clause-length c =
    let way = c.minus-way.result in
    let small : IsBelow way (2 ^ 32) = subst (λ (v : V2). IsBelow v (2 ^ 32)) (sym c.minus-way.ensures) (way_small c.args.goal.now.at c.args.pos c.requires.at c.requires.pos) in
    let some = length_some way c.args.goal.now.pace (le_false _ _ (sym c.is_reached.ensures ∙ c.if-is_reached.false)) in
    (omega (arith, some, c.length_of-length.ensures), omega (arith, length_small way small, c.length_of-length.ensures))
