use Rattle.std.proofs.Common.{refl}
use Rattle.planar_line.proofs.Reliefs.{plane-in, plane-same}
use Rattle.planar_line.proofs.relief.contains_at.Goals as goal

pub returns-then-is_in : goal.returns-then-is_in
returns-then-is_in c =
    let inside = plane-in c.args.hard c.args.relief c.args.planes.now c.requires.hard c.args.place _ c.requires.place c.index-planes-place.is c.args.point.now c.if-is_in.ensures.fits.positive (c.if-is_in.ensures.value.0 refl) in
    (λ t. inside, λ h. refl)

pub returns-else-is_relieved : goal.returns-else-is_relieved
returns-else-is_relieved c =
    let same = plane-same c.args.hard c.args.relief c.args.planes.now c.requires.hard c.args.place _ c.requires.place c.index-planes-place.is (c.if-is_relieved.ensures.same refl) in
    rw (← same, c.if-is_relieved.false) c.if-is_in.ensures.value
