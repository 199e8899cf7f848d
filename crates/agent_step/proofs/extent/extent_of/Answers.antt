use Rattle.std.proofs.Common.{List, subst, take, rules}
use Rattle.std.specs.List.{All}
use Rattle.std.proofs.lemmas.List.{take_all}
use Rattle.std.proofs.lemmas.List.Elements.{All-more, All-weaker}
use Rattle.crowd_data.specs.declared.segment.Segment.{Segment}
use Rattle.agent_step.specs.WallBlocks.{IsAround, no_segment}
use Rattle.agent_step.proofs.extent.extent_of.Goals as goal

pub loop-segment-preserved : goal.loop-segment-preserved
loop-segment-preserved c =
    All-more (IsAround c.widened-extent.result) c.args.segments.now c.loop-segment.segment-index no_segment c.loop-segment-test.true
    (All-weaker (IsAround c.loop-segment.extent) (IsAround c.widened-extent.result)
    (λ s h. c.widened-extent.ensures.others s h) (take c.loop-segment.segment-index c.args.segments.now) c.loop-segment.invariant)
    (let h = c.widened-extent.ensures.own in search rules)

pub returns : goal.returns
returns c =
    subst (λ (t : List Segment). All (IsAround c.loop-segment.extent) t) (take_all c.loop-segment.segment-index c.args.segments.now c.loop-segment-test.false) c.loop-segment.invariant
