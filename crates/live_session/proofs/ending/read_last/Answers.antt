use Rattle.std.proofs.Common.{◌∙◌, ap, arith, subst, List}
use Rattle.logbook.specs.Pages.{Book}
use Rattle.crowd_data.specs.Scenario.{Parts}
use Rattle.published_frames.specs.declared.entry.Step.{Step}
use Rattle.published_frames.specs.History.{StartsWith}
use Rattle.published_frames.specs.Names.{guard_seen, reader_learnt, reader_seen, writer_history}
use Rattle.live_session.proofs.Lived.{seen_before}
use Rattle.live_session.proofs.ending.read_last.Goals as goal

pub returns : goal.returns
returns g c =
    let source = c.read.ensures.source ∙ (c.learn.ensures.source ∙ c.requires.source) in
    let few = c.read.ensures.legal.steps in
    let size = ap (λ (s : Book × Parts). s.1.steps) source in
    let told = subst (λ (h : List Step). StartsWith (reader_learnt c.learn.new.self) h) c.tell.ensures.history c.learn.ensures.learnt in
    let before = subst (λ (h : List Step). StartsWith (guard_seen c.read.result) h) c.learn.ensures.seen c.read.ensures.later_than_read in
    seen_before (writer_history c.args.writer.now) (reader_learnt c.learn.new.self) (guard_seen c.read.result) (reader_seen c.args.reader) told c.read.ensures.later_than_learnt before (omega (arith, few, size, c.requires.last))
