use Rattle.std.specs.Int.{w128}
use Rattle.std.proofs.Common.{pos, ◌≤ℤ◌, FitsSigned, to_z-of_z, rules}
use Rattle.planar_program.proofs.Certificates.{three_exclude}
use Rattle.planar_program.proofs.certificate.certificate_of_three.Goals as goal

pub returns : goal.returns
returns c =
    let t : FitsSigned w128 c.triple.result = search rules in
    let g : FitsSigned w128 c.weighed_give.result = search rules in
    let first : pos 0 ≤ℤ c.slope.result = search rules in
    let second : pos 0 ≤ℤ c.slope-else-slope-lt0.result = search rules in
    let third : pos 0 ≤ℤ c.slope-else-slope-lt0-2.result = search rules in
    let i = rw c.slope.ensures at first in
    let j = rw c.slope-else-slope-lt0.ensures at second in
    let k = rw c.slope-else-slope-lt0-2.ensures at third in
    simp to_z-of_z (rw (c.triple.ensures, c.weighed_give.ensures)
    (λ d small p point. three_exclude d p point c.args.a.now.plane c.args.b.now.plane c.args.c.now.plane c.args.a.now.give c.args.b.now.give c.args.c.now.give i j k small))
