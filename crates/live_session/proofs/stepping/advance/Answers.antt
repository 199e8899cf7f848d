use Rattle.std.proofs.Common.{◌∙◌, ◌+◌, ◌++◌, ◌∷◌, [], List, subst, sym}
use Rattle.outside_io.proofs.WroteLemmas.{prefix_whole}
use Rattle.crowd_data.specs.declared.post.Post.{Post}
use Rattle.crowd_data.specs.Run.{Snapshot}
use Rattle.crowd_data.specs.Scenario.{Parts}
use Rattle.frame_text.specs.Transcript.{frame_text}
use Rattle.published_frames.specs.History.{AreInRange}
use Rattle.published_frames.specs.Names.{writer_history}
use Rattle.live_session.specs.Running.{step_to}
use Rattle.outside_io.specs.Sinks.{sink_state}
use Rattle.live_session.specs.LiveText.{IsLiveList, WroteLivePart}
use Rattle.live_session.specs.declared.fault.LiveFault.TheVariants.{WriteFault, NoMemory}
use Rattle.live_session.proofs.Written.{broken_off, running_next}
use Rattle.live_session.proofs.stepping.advance.Goals as goal

pub returns-in-Err-clause-fault : goal.returns-in-Err-clause-fault
returns-in-Err-clause-fault g c =
    let d = c.args.desk.now in
    let e = c.in-Err.ensures in
    let start = sink_state (g.T.Sink.held d.start.value) (g.T.Sink.faults d.start.value) in
    let before = sink_state (g.T.Sink.held d.out) (g.T.Sink.faults d.out) in
    let now = sink_state (g.T.Sink.held c.write_next.new.out) (g.T.Sink.faults c.write_next.new.out) in
    let list = subst (λ (l : List Post). IsLiveList d.stepper.scenario (d.stepper.frame.number + 1) l) (sym c.items.ensures) c.requires.posts in
    subst (λ (s : Parts). WroteLivePart s start now WriteFault) (sym e.scenario)
    (broken_off start before now d.writer d.stepper c.write_next.new.stepper.frame c.items.result.now WriteFault c.requires.running e.next e.in_range list e.text e.cause.later (λ same. e.cause.failed))

pub publish_next-requires-clause-in_range : goal.publish_next-requires-clause-in_range
publish_next-requires-clause-in_range g c = subst (λ (f : Snapshot). AreInRange f.bodies) (sym c.frame.ensures.value) c.in-Ok.ensures.in_range

pub returns-in-Ok-publish_next-clause-running : goal.returns-in-Ok-publish_next-clause-running
returns-in-Ok-publish_next-clause-running g c =
    let d = c.args.desk.now in
    let e = c.in-Ok.ensures in
    let start = sink_state (g.T.Sink.held d.start.value) (g.T.Sink.faults d.start.value) in
    let before = sink_state (g.T.Sink.held d.out) (g.T.Sink.faults d.out) in
    let now = sink_state (g.T.Sink.held c.write_next.new.out) (g.T.Sink.faults c.write_next.new.out) in
    let list = subst (λ (l : List Post). IsLiveList d.stepper.scenario (d.stepper.frame.number + 1) l) (sym c.items.ensures) c.requires.posts in
    let p = c.in-Ok-publish_next.ensures in
    let shown = c.frame.ensures.value in
    let listed = c.items-2.ensures ∙ sym c.items.ensures in
    let history = p.history ∙ (λ i. writer_history d.writer ++ step_to (shown i) (listed i) ∷ []) in
    running_next start before now d.writer c.publish_next.new.writer d.stepper c.write_next.new.stepper c.items.result.now c.requires.running e.next e.in_range list e.text e.cause.later e.scenario p.source history

pub returns-in-Err-publish_next-clause-fault : goal.returns-in-Err-publish_next-clause-fault
returns-in-Err-publish_next-clause-fault g c =
    let d = c.args.desk.now in
    let e = c.in-Ok.ensures in
    let start = sink_state (g.T.Sink.held d.start.value) (g.T.Sink.faults d.start.value) in
    let before = sink_state (g.T.Sink.held d.out) (g.T.Sink.faults d.out) in
    let now = sink_state (g.T.Sink.held c.write_next.new.out) (g.T.Sink.faults c.write_next.new.out) in
    let list = subst (λ (l : List Post). IsLiveList d.stepper.scenario (d.stepper.frame.number + 1) l) (sym c.items.ensures) c.requires.posts in
    subst (λ (s : Parts). WroteLivePart s start now NoMemory) (sym e.scenario)
    (broken_off start before now d.writer d.stepper c.write_next.new.stepper.frame c.items.result.now NoMemory c.requires.running e.next e.in_range list (prefix_whole before.held now.held (frame_text c.write_next.new.stepper.frame c.items.result.now) e.text) e.cause.later (λ same. absurd cc))
