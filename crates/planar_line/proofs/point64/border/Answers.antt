use Rattle.exact_algebra.proofs.Machine.{computed, reads}
use Rattle.planar_line.proofs.Sizes.{look, look_limits, look_within}
use Rattle.planar_line.proofs.point64.border.Goals as goal

pub returns : goal.returns
returns c =
    rw c.c.ensures.value
    (computed (look c.args.plane.now c.args.point.now) look_limits (look_within c.args.plane.now c.args.point.now c.c.ensures.fits c.args.point.now.fits) (search reads depth 40 fits 20000) tt)
