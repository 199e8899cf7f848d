use Rattle.std.proofs.Common.{arith}
use Rattle.fixed_vec.proofs.Sizes.{normal_small}
use Rattle.fixed_vec.proofs.half_plane.HalfPlane.length.Goals as goal

pub dot-requires-clause-a_small : goal.dot-requires-clause-a_small
dot-requires-clause-a_small c = let s = normal_small c.self.inside.n c.self.invariant.normal in omega arith

pub dot-requires-clause-b_small : goal.dot-requires-clause-b_small
dot-requires-clause-b_small c = let s = normal_small c.self.inside.n c.self.invariant.normal in omega arith
