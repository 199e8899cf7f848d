use Rattle.std.proofs.Common.{◌-ℤ◌, FitsSigned, to_z-of_z, w64, arith}
use Rattle.std.proofs.lemmas.Int.{ints}
use Rattle.pair_plane.proofs.pair.Pair.relative_velocity.Goals as goal

pub returns-clause-value : goal.returns-clause-value
returns-clause-value c =
    let low = c.args.self.now.limits.low_vel in
    let high = c.args.self.now.limits.high_vel in
    let x : FitsSigned w64 (c.args.self.now.low.vel.x -ℤ c.args.self.now.high.vel.x) = omega (arith, ints) in
    let y : FitsSigned w64 (c.args.self.now.low.vel.y -ℤ c.args.self.now.high.vel.y) = omega (arith, ints) in
    let a : FitsSigned w64 c.args.self.now.high.vel.x = omega (arith, ints) in
    let b : FitsSigned w64 c.args.self.now.high.vel.y = omega (arith, ints) in
    let d : FitsSigned w64 c.args.self.now.low.vel.x = omega (arith, ints) in
    let e : FitsSigned w64 c.args.self.now.low.vel.y = omega (arith, ints) in
    simp to_z-of_z
