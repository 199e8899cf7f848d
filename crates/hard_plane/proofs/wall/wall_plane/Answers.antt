use Rattle.std.proofs.Common.{refl, sym, subst, ◌∙◌, rules, arith, FitsSigned, to_z-of_z}
use Rattle.std.specs.Int.{w128}
use Rattle.std.proofs.lemmas.Int.{ints}
use Rattle.fixed_vec.specs.HalfPlane.{FitsPlane, drawn_of}
use Rattle.hard_plane.proofs.WallPlane.{wall_fits}
use Rattle.hard_plane.proofs.wall.wall_plane.Goals as goal

pub offset-offset-requires-clause-e_small : goal.offset-offset-requires-clause-e_small
offset-offset-requires-clause-e_small c =
    simp c.minus.ensures (omega (arith, ints, c.wall_line-line.ensures.point, c.requires.position), omega (arith, ints, c.wall_line-line.ensures.point, c.requires.position))

pub of-requires : goal.of-requires
of-requires c =
    let f : FitsSigned w128 c.offset-offset.result = search rules in
    let w = wall_fits c.args.pos c.args.agent.now c.args.segment.now c.requires.agent c.requires.segment c.requires.reach c.requires.clear in
    let line = subst FitsPlane (c.wall_line-line.ensures.plane c.args.agent.now) w.0 in
    simp to_z-of_z (simp (c.offset-offset.ensures, c.minus.ensures) line)

pub returns-clause-value : goal.returns-clause-value
returns-clause-value c =
    let f : FitsSigned w128 c.offset-offset.result = search rules in
    c.of.ensures ∙ simp to_z-of_z (simp (c.offset-offset.ensures, c.minus.ensures) refl) ∙ sym (c.wall_line-line.ensures.plane c.args.agent.now)

pub returns-clause-room : goal.returns-clause-room
returns-clause-room c =
    let w = wall_fits c.args.pos c.args.agent.now c.args.segment.now c.requires.agent c.requires.segment c.requires.reach c.requires.clear in
    subst (λ plane. FitsPlane (drawn_of plane)) (sym (returns-clause-value c)) w.1
