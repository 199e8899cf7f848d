use Rattle.std.specs.Int.{w128}
use Rattle.std.proofs.Common.{arith, rules, FitsSigned, to_z-of_z}
use Rattle.planar_program.proofs.Certificates.{hard_party, soft_party}
use Rattle.planar_program.proofs.certificate.party_at.Goals as goal

pub returns-then-place-hard : goal.returns-then-place-hard
returns-then-place-hard c = hard_party c.args.hard c.args.planes.now c.requires c.args.place c.index-planes-place.result (omega arith) c.index-planes-place.is c.n-n.ensures.fits (omega arith)

pub returns : goal.returns
returns c =
    let f : FitsSigned w128 c.whole_length.result = search rules in
    simp to_z-of_z
    (rw c.whole_length.ensures (soft_party c.args.hard c.args.planes.now c.requires c.args.place c.index-planes-place.result (omega arith) c.index-planes-place.is c.n-n.ensures.fits (omega arith)))
