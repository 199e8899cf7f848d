use Rattle.std.specs.Int.{w128}
use Rattle.std.proofs.Common.{◌≡◌, pos, ◌≤ℤ◌, FitsSigned, to_z-of_z, arith, rules}
use Rattle.planar_program.proofs.Certificates.{two_exclude, cross_perp-nonneg, across-fits}
use Rattle.planar_program.proofs.certificate.certificate_of_two.Goals as goal

pub weighed_give-requires-clause-c : goal.weighed_give-requires-clause-c
weighed_give-requires-clause-c c = rw c.across-third.ensures (record { bounds = across-fits c.args.b.now.plane c.requires.b.bounds; small = omega arith })

pub returns : goal.returns
returns c =
    let b = c.args.b.now.plane in
    let t : FitsSigned w128 c.triple.result = search rules in
    let g : FitsSigned w128 c.weighed_give.result = search rules in
    let second : pos 0 ≤ℤ c.slope.result = search rules in
    let third : c.slope-else-slope-lt0.result ≡ pos 0 = search rules in
    let j = rw (c.slope.ensures, c.across-third.ensures) at second in
    let k = rw c.slope-else-slope-lt0.ensures at third in
    simp to_z-of_z (rw (c.triple.ensures, c.weighed_give.ensures, c.across-third.ensures)
    (λ d small p point. two_exclude d p point c.args.a.now.plane b _ c.args.a.now.give c.args.b.now.give _ (cross_perp-nonneg b.n) j k small))
