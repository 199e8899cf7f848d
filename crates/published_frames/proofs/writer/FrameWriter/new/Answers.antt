use Rattle.std.proofs.Common.{◌≡◌, ◌∙◌, ◌∷◌, [], ap, subst, sym}
use Rattle.crowd_data.specs.Run.{start_of}
use Rattle.crowd_data.specs.Scenario.{IsValid}
use Rattle.published_frames.specs.declared.entry.Entry.TheVariants.{Start}
use Rattle.published_frames.specs.declared.log_prefix.LogPrefix.{LogPrefix}
use Rattle.published_frames.specs.Log.{attempted_in, scenario_in}
use Rattle.published_frames.proofs.Keeping.{first_kept, publish_none}
use Rattle.published_frames.proofs.writer.FrameWriter.new.Goals as goal

pub new-requires-clause-rule : goal.new-requires-clause-rule
new-requires-clause-rule g c =
    let log : c.again.result.seen.log ≡ Start c.args.scenario.now ∷ [] = ap (λ (p : LogPrefix). p.seen.log) c.again.ensures ∙ c.start-log.ensures.log in
    let scenario = ap scenario_in log in
    first_kept _ (subst IsValid (sym scenario) c.requires.valid) (ap attempted_in log) (c.in_ok-copy_frame.ensures ∙ (c.requires.first ∙ ap start_of (sym scenario)))

pub publish_as-copies-requires : goal.publish_as-copies-requires
publish_as-copies-requires g c next is = publish_none _ _ c.in-Ok.copies.desk.shown.value next _ c.in-Ok.ensures.1 is
