use Rattle.planar_line.proofs.Reliefs.{keep-pair}
use Rattle.geometry_tests.proofs.one_line.best_on_second.Goals as goal

pub best_on_line-requires-clause-bounds : goal.best_on_line-requires-clause-bounds
best_on_line-requires-clause-bounds c = keep-pair c.args.hard c.args.relief c.args.first c.args.second c.requires.relief c.requires.first c.requires.second
