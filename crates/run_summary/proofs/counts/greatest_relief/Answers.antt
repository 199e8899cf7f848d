use Rattle.run_summary.proofs.SummaryLemmas.{greatest_relief_more}
use Rattle.run_summary.proofs.counts.greatest_relief.Goals as goal

pub loop-body-preserved : goal.loop-body-preserved
loop-body-preserved c =
    greatest_relief_more c.args.bodies.now c.loop-body.body-index c.loop-body-test.true _ _ c.max-greatest.ensures c.loop-body.invariant
