use Rattle.std.specs.Int.{w128}
use Rattle.exact_algebra.proofs.Machine.{fits, computed, reads}
use Rattle.planar_line.specs.Border.{crossing_of}
use Rattle.planar_line.proofs.Sizes.{pair, pair_limits, pair_within, crossing-fits, fits_by, point_by}
use Rattle.planar_line.proofs.crossing.crossing.Goals as goal

pub overflow_mul-x : goal.overflow_mul-x
overflow_mul-x c =
    simp (c.n-m.ensures.value, c.n-n.ensures.value, c.c-c.ensures.value, c.c-d.ensures.value)
    (fits (pair c.args.first.now c.args.second.now) pair_limits w128 (pair_within _ _ c.c-c.ensures.fits c.c-d.ensures.fits) (search reads depth 40 fits 20000) tt)

pub overflow_mul-x-2 : goal.overflow_mul-x-2
overflow_mul-x-2 c =
    simp (c.n-m.ensures.value, c.n-n.ensures.value, c.c-c.ensures.value, c.c-d.ensures.value)
    (fits (pair c.args.first.now c.args.second.now) pair_limits w128 (pair_within _ _ c.c-c.ensures.fits c.c-d.ensures.fits) (search reads depth 40 fits 20000) tt)

pub overflow_sub-x : goal.overflow_sub-x
overflow_sub-x c =
    simp (c.n-m.ensures.value, c.n-n.ensures.value, c.c-c.ensures.value, c.c-d.ensures.value)
    (fits (pair c.args.first.now c.args.second.now) pair_limits w128 (pair_within _ _ c.c-c.ensures.fits c.c-d.ensures.fits) (search reads depth 40 fits 20000) tt)

pub overflow_mul-y : goal.overflow_mul-y
overflow_mul-y c =
    simp (c.n-m.ensures.value, c.n-n.ensures.value, c.c-c.ensures.value, c.c-d.ensures.value)
    (fits (pair c.args.first.now c.args.second.now) pair_limits w128 (pair_within _ _ c.c-c.ensures.fits c.c-d.ensures.fits) (search reads depth 40 fits 20000) tt)

pub overflow_mul-y-2 : goal.overflow_mul-y-2
overflow_mul-y-2 c =
    simp (c.n-m.ensures.value, c.n-n.ensures.value, c.c-c.ensures.value, c.c-d.ensures.value)
    (fits (pair c.args.first.now c.args.second.now) pair_limits w128 (pair_within _ _ c.c-c.ensures.fits c.c-d.ensures.fits) (search reads depth 40 fits 20000) tt)

pub overflow_sub-y : goal.overflow_sub-y
overflow_sub-y c =
    simp (c.n-m.ensures.value, c.n-n.ensures.value, c.c-c.ensures.value, c.c-d.ensures.value)
    (fits (pair c.args.first.now c.args.second.now) pair_limits w128 (pair_within _ _ c.c-c.ensures.fits c.c-d.ensures.fits) (search reads depth 40 fits 20000) tt)

pub of-requires : goal.of-requires
of-requires c =
    simp (c.n-m.ensures.value, c.n-n.ensures.value, c.c-c.ensures.value, c.c-d.ensures.value, c.slope.ensures)
    (fits_by _ _ _ (crossing_of c.args.first.now c.args.second.now)
    (computed (pair c.args.first.now c.args.second.now) pair_limits (pair_within _ _ c.c-c.ensures.fits c.c-d.ensures.fits) (search reads depth 40 fits 20000) tt)
    (computed (pair c.args.first.now c.args.second.now) pair_limits (pair_within _ _ c.c-c.ensures.fits c.c-d.ensures.fits) (search reads depth 40 fits 20000) tt)
    (computed (pair c.args.first.now c.args.second.now) pair_limits (pair_within _ _ c.c-c.ensures.fits c.c-d.ensures.fits) (search reads depth 40 fits 20000) tt)
    (crossing-fits _ _ c.c-c.ensures.fits c.c-d.ensures.fits c.requires))

pub returns : goal.returns
returns c =
    point_by _ _ _ (crossing_of c.args.first.now c.args.second.now) c.of.result
    (simp (c.n-m.ensures.value, c.n-n.ensures.value, c.c-c.ensures.value, c.c-d.ensures.value, c.slope.ensures) at c.of.ensures)
    (computed (pair c.args.first.now c.args.second.now) pair_limits (pair_within _ _ c.c-c.ensures.fits c.c-d.ensures.fits) (search reads depth 40 fits 20000) tt)
    (computed (pair c.args.first.now c.args.second.now) pair_limits (pair_within _ _ c.c-c.ensures.fits c.c-d.ensures.fits) (search reads depth 40 fits 20000) tt)
    (computed (pair c.args.first.now c.args.second.now) pair_limits (pair_within _ _ c.c-c.ensures.fits c.c-d.ensures.fits) (search reads depth 40 fits 20000) tt)
