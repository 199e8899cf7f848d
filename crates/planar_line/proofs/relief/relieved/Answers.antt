use Rattle.planar_line.proofs.Reliefs.{relieved-fits}
use Rattle.planar_line.proofs.relief.relieved.Goals as goal

pub relieved-requires : goal.relieved-requires
relieved-requires c = relieved-fits c.args.plane.now c.args.relief c.c-c.ensures.fits c.requires
