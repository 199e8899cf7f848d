use Rattle.planar_line.proofs.Sizes.{normal_small}
use Rattle.planar_program.proofs.certificate.across.Goals as goal

pub perp-requires : goal.perp-requires
perp-requires c = rw c.n.ensures.value (normal_small c.args.party.now.plane c.n.ensures.fits)
