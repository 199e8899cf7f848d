use Rattle.std.specs.Int.{w128}
use Rattle.exact_algebra.proofs.Machine.{fits, computed, reads}
use Rattle.planar_line.proofs.Sizes.{look, look_limits, look_within}
use Rattle.planar_line.proofs.point64.reach.Goals as goal

pub overflow_add-result : goal.overflow_add-result
overflow_add-result c =
    rw c.n-n.ensures.value
    (fits (look c.args.plane.now c.args.point.now) look_limits w128 (look_within c.args.plane.now c.args.point.now c.n-n.ensures.fits c.args.point.now.fits) (search reads depth 40 fits 20000) tt)

pub returns : goal.returns
returns c =
    rw c.n-n.ensures.value
    (computed (look c.args.plane.now c.args.point.now) look_limits (look_within c.args.plane.now c.args.point.now c.n-n.ensures.fits c.args.point.now.fits) (search reads depth 40 fits 20000) tt)
