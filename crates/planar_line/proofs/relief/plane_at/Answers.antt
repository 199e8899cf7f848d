use Rattle.std.proofs.Common.{◌∙◌, arith}
use Rattle.planar_line.proofs.Reliefs.{plane-keeps, plane-hard, plane-soft}
use Rattle.planar_line.proofs.relief.plane_at.Goals as goal

pub relieved-requires : goal.relieved-requires
relieved-requires c = plane-keeps c.args.hard c.args.relief c.args.planes.now c.requires.hard c.args.place _ c.requires.place c.index-planes-place.is c.requires.bounds (omega arith)

pub returns-then-place-hard : goal.returns-then-place-hard
returns-then-place-hard c = plane-hard c.args.hard c.args.relief c.args.planes.now c.requires.hard c.args.place _ c.requires.place c.index-planes-place.is (omega arith)

pub returns-else-place-hard : goal.returns-else-place-hard
returns-else-place-hard c = c.relieved.ensures ∙ plane-soft c.args.hard c.args.relief c.args.planes.now c.requires.hard c.args.place _ c.requires.place c.index-planes-place.is (omega arith)
