use Rattle.planar_line.proofs.Reliefs.{keep-pair}
use Rattle.geometry_tests.proofs.programs.both_have.Goals as goal

pub meets-requires-clause-bounds : goal.meets-requires-clause-bounds
meets-requires-clause-bounds c = keep-pair c.args.hard c.args.relief c.args.first c.args.second c.requires.relief c.requires.first c.requires.second
