use Rattle.std.proofs.Common.{◌-ℤ◌, FitsSigned, to_z-of_z, w64, arith, rules}
use Rattle.std.proofs.lemmas.Int.{ints}
use Rattle.pair_plane.proofs.Sizes.{offset_small}
use Rattle.pair_plane.proofs.pair.Pair.relative_position.Goals as goal

pub returns-clause-value : goal.returns-clause-value
returns-clause-value c =
    let s = offset_small c.args.self.now.low c.args.self.now.high c.args.self.now.tau c.args.self.now.limits in
    let x : FitsSigned w64 (c.args.self.now.high.pos.x -ℤ c.args.self.now.low.pos.x) = omega (arith, ints) in
    let y : FitsSigned w64 (c.args.self.now.high.pos.y -ℤ c.args.self.now.low.pos.y) = omega (arith, ints) in
    let a : FitsSigned w64 c.args.self.now.high.pos.x = search rules in
    let b : FitsSigned w64 c.args.self.now.high.pos.y = search rules in
    let d : FitsSigned w64 c.args.self.now.low.pos.x = search rules in
    let e : FitsSigned w64 c.args.self.now.low.pos.y = search rules in
    simp to_z-of_z

pub returns-clause-small : goal.returns-clause-small
returns-clause-small c =
    let s = offset_small c.args.self.now.low c.args.self.now.high c.args.self.now.tau c.args.self.now.limits in
    (omega (arith, ints), omega (arith, ints))
