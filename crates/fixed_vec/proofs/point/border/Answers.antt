use Rattle.std.specs.Int.{w128}
use Rattle.exact_algebra.proofs.Machine.{fits, computed, reads}
use Rattle.fixed_vec.proofs.Sizes.{inputs, limits, within}
use Rattle.fixed_vec.proofs.point.border.Goals as goal

pub overflow_mul-result : goal.overflow_mul-result
overflow_mul-result c =
    rw (c.c.ensures.value, c.q.ensures.value)
    (fits (inputs c.args.plane.now c.args.point.now) limits w128 (within _ _ c.c.ensures.fits c.q.ensures.fits) (search reads depth 40 fits 20000) tt)

pub returns : goal.returns
returns c =
    rw (c.c.ensures.value, c.q.ensures.value)
    (computed (inputs c.args.plane.now c.args.point.now) limits (within _ _ c.c.ensures.fits c.q.ensures.fits) (search reads depth 40 fits 20000) tt)
