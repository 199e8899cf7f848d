use Rattle.std.specs.Int.{w128}
use Rattle.exact_algebra.proofs.Machine.{fits, computed, reads}
use Rattle.planar_line.specs.Border.{foot_of}
use Rattle.planar_line.proofs.Sizes.{normal_small, outlook, outlook_limits, outlook_within, foot-fits, fits_by, point_by}
use Rattle.planar_line.proofs.foot.foot.Goals as goal

pub cross-along-requires-clause-a_small : goal.cross-along-requires-clause-a_small
cross-along-requires-clause-a_small c = rw c.n-n.ensures.value (normal_small c.args.border.now c.n-n.ensures.fits)

pub overflow_mul-x : goal.overflow_mul-x
overflow_mul-x c =
    simp (c.n-n.ensures.value, c.c-c.ensures.value)
    (fits (outlook c.args.border.now c.args.at) outlook_limits w128 (outlook_within _ _ c.c-c.ensures.fits c.requires) (search reads depth 40 fits 20000) tt)

pub overflow_mul-x-2 : goal.overflow_mul-x-2
overflow_mul-x-2 c =
    simp (c.cross-along.ensures, c.n-n.ensures.value)
    (fits (outlook c.args.border.now c.args.at) outlook_limits w128 (outlook_within _ _ c.c-c.ensures.fits c.requires) (search reads depth 40 fits 20000) tt)

pub overflow_sub-x : goal.overflow_sub-x
overflow_sub-x c =
    simp (c.cross-along.ensures, c.n-n.ensures.value, c.c-c.ensures.value)
    (fits (outlook c.args.border.now c.args.at) outlook_limits w128 (outlook_within _ _ c.c-c.ensures.fits c.requires) (search reads depth 40 fits 20000) tt)

pub overflow_mul-y : goal.overflow_mul-y
overflow_mul-y c =
    simp (c.n-n.ensures.value, c.c-c.ensures.value)
    (fits (outlook c.args.border.now c.args.at) outlook_limits w128 (outlook_within _ _ c.c-c.ensures.fits c.requires) (search reads depth 40 fits 20000) tt)

pub overflow_mul-y-2 : goal.overflow_mul-y-2
overflow_mul-y-2 c =
    simp (c.cross-along.ensures, c.n-n.ensures.value)
    (fits (outlook c.args.border.now c.args.at) outlook_limits w128 (outlook_within _ _ c.c-c.ensures.fits c.requires) (search reads depth 40 fits 20000) tt)

pub overflow_add-y : goal.overflow_add-y
overflow_add-y c =
    simp (c.cross-along.ensures, c.n-n.ensures.value, c.c-c.ensures.value)
    (fits (outlook c.args.border.now c.args.at) outlook_limits w128 (outlook_within _ _ c.c-c.ensures.fits c.requires) (search reads depth 40 fits 20000) tt)

pub dot-requires-clause-a_small : goal.dot-requires-clause-a_small
dot-requires-clause-a_small c = rw c.n-n.ensures.value (normal_small c.args.border.now c.n-n.ensures.fits)

pub dot-requires-clause-b_small : goal.dot-requires-clause-b_small
dot-requires-clause-b_small c = rw c.n-n.ensures.value (normal_small c.args.border.now c.n-n.ensures.fits)

pub of-requires : goal.of-requires
of-requires c =
    simp (c.dot.ensures, c.cross-along.ensures, c.n-n.ensures.value, c.c-c.ensures.value)
    (fits_by _ _ _ (foot_of c.args.border.now c.args.at)
    (computed (outlook c.args.border.now c.args.at) outlook_limits (outlook_within _ _ c.c-c.ensures.fits c.requires) (search reads depth 40 fits 20000) tt)
    (computed (outlook c.args.border.now c.args.at) outlook_limits (outlook_within _ _ c.c-c.ensures.fits c.requires) (search reads depth 40 fits 20000) tt)
    (computed (outlook c.args.border.now c.args.at) outlook_limits (outlook_within _ _ c.c-c.ensures.fits c.requires) (search reads depth 40 fits 20000) tt)
    (foot-fits _ _ c.c-c.ensures.fits c.requires))

pub returns : goal.returns
returns c =
    point_by _ _ _ (foot_of c.args.border.now c.args.at) c.of.result
    (simp (c.dot.ensures, c.cross-along.ensures, c.n-n.ensures.value, c.c-c.ensures.value) at c.of.ensures)
    (computed (outlook c.args.border.now c.args.at) outlook_limits (outlook_within _ _ c.c-c.ensures.fits c.requires) (search reads depth 40 fits 20000) tt)
    (computed (outlook c.args.border.now c.args.at) outlook_limits (outlook_within _ _ c.c-c.ensures.fits c.requires) (search reads depth 40 fits 20000) tt)
    (computed (outlook c.args.border.now c.args.at) outlook_limits (outlook_within _ _ c.c-c.ensures.fits c.requires) (search reads depth 40 fits 20000) tt)
