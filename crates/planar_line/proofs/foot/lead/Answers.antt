use Rattle.std.specs.Int.{w128}
use Rattle.exact_algebra.proofs.Machine.{fits, computed, reads}
use Rattle.planar_line.proofs.Sizes.{normal_small, sight, sight_limits, sight_within}
use Rattle.planar_line.proofs.foot.lead.Goals as goal

pub overflow_mul-along : goal.overflow_mul-along
overflow_mul-along c =
    simp (c.n-n.ensures.value, c.y.ensures.value)
    (fits (sight c.args.border.now c.args.point.now c.args.at) sight_limits w128 (sight_within _ _ _ c.n-n.ensures.fits c.y.ensures.fits c.requires) (search reads depth 40 fits 20000) tt)

pub overflow_mul-along-2 : goal.overflow_mul-along-2
overflow_mul-along-2 c =
    simp (c.n-n.ensures.value, c.x.ensures.value)
    (fits (sight c.args.border.now c.args.point.now c.args.at) sight_limits w128 (sight_within _ _ _ c.n-n.ensures.fits c.x.ensures.fits c.requires) (search reads depth 40 fits 20000) tt)

pub overflow_sub-along : goal.overflow_sub-along
overflow_sub-along c =
    simp (c.n-n.ensures.value, c.x.ensures.value, c.y.ensures.value)
    (fits (sight c.args.border.now c.args.point.now c.args.at) sight_limits w128 (sight_within _ _ _ c.n-n.ensures.fits c.x.ensures.fits c.requires) (search reads depth 40 fits 20000) tt)

pub cross-requires-clause-a_small : goal.cross-requires-clause-a_small
cross-requires-clause-a_small c = rw c.n-n.ensures.value (normal_small c.args.border.now c.n-n.ensures.fits)

pub overflow_mul-result : goal.overflow_mul-result
overflow_mul-result c =
    simp (c.cross.ensures, c.n-n.ensures.value, c.q.ensures.value)
    (fits (sight c.args.border.now c.args.point.now c.args.at) sight_limits w128 (sight_within _ _ _ c.n-n.ensures.fits c.x.ensures.fits c.requires) (search reads depth 40 fits 20000) tt)

pub overflow_sub-result : goal.overflow_sub-result
overflow_sub-result c =
    simp (c.cross.ensures, c.n-n.ensures.value, c.q.ensures.value, c.x.ensures.value, c.y.ensures.value)
    (fits (sight c.args.border.now c.args.point.now c.args.at) sight_limits w128 (sight_within _ _ _ c.n-n.ensures.fits c.x.ensures.fits c.requires) (search reads depth 40 fits 20000) tt)

pub returns : goal.returns
returns c =
    simp (c.cross.ensures, c.n-n.ensures.value, c.q.ensures.value, c.x.ensures.value, c.y.ensures.value)
    (computed (sight c.args.border.now c.args.point.now c.args.at) sight_limits (sight_within _ _ _ c.n-n.ensures.fits c.x.ensures.fits c.requires) (search reads depth 40 fits 20000) tt)
