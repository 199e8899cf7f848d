use Rattle.std.specs.Int.{w128}
use Rattle.std.proofs.Common.{◌≡◌, pos, ◌<ℤ◌, FitsSigned, to_z-of_z, arith, rules}
use Rattle.std.proofs.lemmas.Int.{ints}
use Rattle.planar_program.specs.declared.relief.TheConstants.{GREATEST_RELIEF}
use Rattle.exact_algebra.specs.Numbers.{ceil}
use Rattle.planar_program.proofs.Certificates.{too_small_below}
use Rattle.planar_program.proofs.certificate.least_enough.Goals as goal

pub returns-then-least : goal.returns-then-least
returns-then-least c =
    let lack = c.args.certificate.now.lack in let give = c.args.certificate.now.give in
    let f : FitsSigned w128 lack = search rules in
    let g : FitsSigned w128 give = search rules in
    let e : c.div_up-least.result ≡ ceil lack give = simp to_z-of_z at c.div_up-least.ensures in
    let positive : pos 0 <ℤ give = search rules in
    let most : pos GREATEST_RELIEF <ℤ c.div_up-least.result = search rules in
    let above : pos GREATEST_RELIEF <ℤ ceil lack give = rw e at most in
    λ d l. too_small_below lack give d positive (omega (arith, ints))
