use Rattle.std.proofs.Common.{arith}
use Rattle.std.proofs.lemmas.Option.{slice_get-get_or}
use Rattle.crowd_data.specs.Walls.{IsClear}
use Rattle.crowd_data.proofs.SoFar.{all_more, all_of_so_far}
use Rattle.crowd_data.proofs.standing.first_touched.Goals as goal

pub returns-then-not-clear-clause-some : goal.returns-then-not-clear-clause-some
returns-then-not-clear-clause-some c = (
  _,
  slice_get-get_or c.args.segments.now c.loop-which.which _ c.loop-which-test.true,
  λ is_clear. let t = c.clear.ensures.1 is_clear in cc (t, c.if-not-clear.true),
  c.loop-which.invariant,
)

pub loop-which-preserved : goal.loop-which-preserved
loop-which-preserved c =
    all_more (IsClear c.args.agent.now.pos c.args.agent.now.radius) c.args.segments.now c.loop-which.which _ c.loop-which-test.true c.loop-which.invariant
    (c.clear.ensures.0 c.if-not-clear.false)

pub returns-clause-none : goal.returns-clause-none
returns-clause-none c = all_of_so_far (IsClear c.args.agent.now.pos c.args.agent.now.radius) c.args.segments.now c.loop-which.which (omega (arith, c.loop-which-test.false)) c.loop-which.invariant
