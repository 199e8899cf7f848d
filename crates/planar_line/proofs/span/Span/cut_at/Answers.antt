use Rattle.std.proofs.Common.{refl}
use Rattle.planar_line.proofs.Reliefs.{plane-in, plane-same}
use Rattle.planar_line.proofs.span.Span.cut_at.Goals as goal

pub returns-then-is_spared-clause-exact : goal.returns-then-is_spared-clause-exact
returns-then-is_spared-clause-exact c =
    let held = c.if-is_spared.ensures refl in
    λ t p. (λ w. (w, plane-in c.args.hard c.args.relief c.args.planes.now c.requires.hard c.args.place c.index-planes-place.result c.requires.place c.index-planes-place.is p w.on.point (held p w)), λ b. b.0)

pub returns-else-is_relieved-clause-exact : goal.returns-else-is_relieved-clause-exact
returns-else-is_relieved-clause-exact c =
    let same = plane-same c.args.hard c.args.relief c.args.planes.now c.requires.hard c.args.place c.index-planes-place.result c.requires.place c.index-planes-place.is (c.if-is_relieved.ensures.same refl) in
    rw (← same) c.cut-else-is_relieved.ensures.exact

pub returns-else-is_relieved-clause-none : goal.returns-else-is_relieved-clause-none
returns-else-is_relieved-clause-none c =
    let same = plane-same c.args.hard c.args.relief c.args.planes.now c.requires.hard c.args.place c.index-planes-place.result c.requires.place c.index-planes-place.is (c.if-is_relieved.ensures.same refl) in
    rw (← same) c.cut-else-is_relieved.ensures.none
