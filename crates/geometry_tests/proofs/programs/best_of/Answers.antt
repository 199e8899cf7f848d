use Rattle.planar_line.proofs.Reliefs.{keep-pair}
use Rattle.geometry_tests.proofs.programs.best_of.Goals as goal

pub nearest-requires-clause-bounds : goal.nearest-requires-clause-bounds
nearest-requires-clause-bounds c = keep-pair c.args.hard c.args.relief c.args.first c.args.second c.requires.relief c.requires.first c.requires.second
