use Rattle.std.proofs.Common.{arith}
use Rattle.std.specs.Int.{w128}
use Rattle.exact_algebra.proofs.Machine.{fits, computed, reads}
use Rattle.fixed_vec.proofs.Sizes.{normal_small, factors, factor_limits, factors_within, part_size}
use Rattle.fixed_vec.proofs.half_plane.part.Goals as goal

pub cross-requires-clause-a_small : goal.cross-requires-clause-a_small
cross-requires-clause-a_small c =
    let s = normal_small c.args.b.now.n c.n.ensures.fits.normal in
    simp c.n.ensures.value (omega (arith, s.0), omega (arith, s.1))

pub cross-requires-clause-b_small : goal.cross-requires-clause-b_small
cross-requires-clause-b_small c =
    let s = normal_small c.args.c.now.n c.n-2.ensures.fits.normal in
    simp c.n-2.ensures.value (omega (arith, s.0), omega (arith, s.1))

pub overflow_mul-result : goal.overflow_mul-result
overflow_mul-result c =
    simp (c.n.ensures.value, c.n-2.ensures.value, c.c.ensures.value, c.cross.ensures)
    (fits (factors c.args.a.now c.args.b.now c.args.c.now) factor_limits w128 (factors_within _ _ _ c.c.ensures.fits c.n.ensures.fits c.n-2.ensures.fits) (search reads depth 40 fits 20000) tt)

pub returns-clause-value : goal.returns-clause-value
returns-clause-value c =
    simp (c.n.ensures.value, c.n-2.ensures.value, c.c.ensures.value, c.cross.ensures)
    (computed (factors c.args.a.now c.args.b.now c.args.c.now) factor_limits (factors_within _ _ _ c.c.ensures.fits c.n.ensures.fits c.n-2.ensures.fits) (search reads depth 40 fits 20000) tt)

pub returns-clause-size : goal.returns-clause-size
returns-clause-size c =
    rw (returns-clause-value c) (part_size c.args.a.now c.args.b.now c.args.c.now c.c.ensures.fits c.n.ensures.fits c.n-2.ensures.fits)
