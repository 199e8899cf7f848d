use Rattle.std.specs.Int.{w128}
use Rattle.exact_algebra.proofs.Machine.{fits, computed, reads}
use Rattle.fixed_vec.proofs.Sizes.{inputs, limits, within}
use Rattle.fixed_vec.proofs.point.reach.Goals as goal

pub overflow_mul-result : goal.overflow_mul-result
overflow_mul-result c =
    rw (c.n-n.ensures.value, c.x.ensures.value)
    (fits (inputs c.args.plane.now c.args.point.now) limits w128 (within _ _ c.n-n.ensures.fits c.x.ensures.fits) (search reads depth 40 fits 20000) tt)

pub overflow_mul-result-2 : goal.overflow_mul-result-2
overflow_mul-result-2 c =
    rw (c.n-n.ensures.value, c.y.ensures.value)
    (fits (inputs c.args.plane.now c.args.point.now) limits w128 (within _ _ c.n-n.ensures.fits c.x.ensures.fits) (search reads depth 40 fits 20000) tt)

pub overflow_add-result : goal.overflow_add-result
overflow_add-result c =
    rw (c.n-n.ensures.value, c.x.ensures.value, c.y.ensures.value)
    (fits (inputs c.args.plane.now c.args.point.now) limits w128 (within _ _ c.n-n.ensures.fits c.x.ensures.fits) (search reads depth 40 fits 20000) tt)

pub returns : goal.returns
returns c =
    rw (c.n-n.ensures.value, c.x.ensures.value, c.y.ensures.value)
    (computed (inputs c.args.plane.now c.args.point.now) limits (within _ _ c.n-n.ensures.fits c.x.ensures.fits) (search reads depth 40 fits 20000) tt)
