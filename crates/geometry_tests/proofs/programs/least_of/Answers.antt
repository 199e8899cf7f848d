use Rattle.std.proofs.Common.{arith}
use Rattle.planar_line.proofs.Reliefs.{keep-pair}
use Rattle.geometry_tests.proofs.programs.least_of.Goals as goal

pub meets-requires-clause-bounds : goal.meets-requires-clause-bounds
meets-requires-clause-bounds g c = keep-pair c.args.hard 262143 c.args.first c.args.second (omega arith) c.requires.first c.requires.second

pub least_relief-requires-clause-bounds : goal.least_relief-requires-clause-bounds
least_relief-requires-clause-bounds g c = keep-pair c.args.hard 262143 c.args.first c.args.second (omega arith) c.requires.first c.requires.second
