use Rattle.std.proofs.Common.{◌≡◌, ◌∙◌, ◌+◌, ◌++◌, ap, arith, length, subst, sym, List, Option}
use Rattle.std.specs.Prelude.{IfSome}
use Rattle.std.specs.List.{All}
use Rattle.std.proofs.lemmas.List.{length-map}
use Rattle.outside_io.specs.Causes.{AppendsPrefix}
use Rattle.std.specs.Io.KnownBytes.{Appends}
use Rattle.crowd_data.specs.Run.{Snapshot}
use Rattle.frame_text.specs.Lines.{end_line}
use Rattle.post_box.specs.Ends.{AreOnceInOrder, IsPosterOf, PosterState}
use Rattle.published_frames.specs.declared.reader.FrameReader.{FrameReader}
use Rattle.published_frames.specs.History.{StartsWith}
use Rattle.published_frames.specs.Names.{reader_seen, reader_source, writer_history, writer_source}
use Rattle.live_session.specs.declared.steered.Steered.{Steered}
use Rattle.outside_io.specs.Sinks.{sink_state}
use Rattle.live_session.proofs.Lived.{IsLast, left_listed, lived, posters_of_box, readers_of, running_cut_off}
use Rattle.crowd_data.proofs.Controllers.{controllers_few}
use Rattle.live_session.proofs.Written.{ended_here}
use Rattle.live_session.proofs.ending.last_frame.Goals as goal

pub returns-in-Err-clause-fault : goal.returns-in-Err-clause-fault
returns-in-Err-clause-fault g c =
    let d = c.args.desk.now in
    ended_here (sink_state (g.T.Sink.held d.start.value) (g.T.Sink.faults d.start.value)) (sink_state (g.T.Sink.held d.out) (g.T.Sink.faults d.out)) d.writer d.stepper c.requires.under_way.running

pub finish-requires-clause-posters : goal.finish-requires-clause-posters
finish-requires-clause-posters g c =
    let d = c.args.desk.now in
    subst (λ (l : List PosterState). All (IsPosterOf c.args.posts) l) (sym c.in-Ok.ensures.posters)
    (posters_of_box c.args.posts (writer_source d.writer) (writer_history d.writer) (d.stepper.frame.number + 1) c.args.list.items c.requires.late)

pub returns-in-Err-finish-clause-fault : goal.returns-in-Err-finish-clause-fault
returns-in-Err-finish-clause-fault g c =
    let d = c.args.desk.now in
    ended_here (sink_state (g.T.Sink.held d.start.value) (g.T.Sink.faults d.start.value)) (sink_state (g.T.Sink.held d.out) (g.T.Sink.faults d.out)) d.writer d.stepper c.requires.under_way.running

pub returns-in-Err-append-clause-fault : goal.returns-in-Err-append-clause-fault
returns-in-Err-append-clause-fault g c =
    let d = c.args.desk.now in
    ended_here (sink_state (g.T.Sink.held d.start.value) (g.T.Sink.faults d.start.value)) (sink_state (g.T.Sink.held d.out) (g.T.Sink.faults d.out)) d.writer d.stepper c.requires.under_way.running

pub advance-requires-clause-posts : goal.advance-requires-clause-posts
advance-requires-clause-posts g c κs within =
    let d = c.args.desk.now in
    let script = c.list_script-desk.ensures.posts in
    let left = c.items.ensures in
    let listed = c.in-Ok-append.ensures ∙ (λ i. script i ++ left i) in
    left_listed c.args.posts d.stepper.scenario (writer_history d.writer) (d.stepper.frame.number + 1) c.args.taker c.in-Ok-finish.left.items c.append.new.list.items c.requires.under_way.taking c.in-Ok-finish.ensures.history.each listed

pub read_last_all-requires-clause-few : goal.read_last_all-requires-clause-few
read_last_all-requires-clause-few g c =
    let scenario = c.args.desk.now.stepper.scenario in
    let few = controllers_few (length scenario.agents) scenario.goals c.scenario-valid.ensures.valid.goals in
    let count = ap (λ l. length l) c.in-Ok.ensures.readers in
    let each = length-map c.args.list.items (λ (s : Steered). s.reader) in
    omega (arith, few, count, each, c.requires.count)

pub read_last_all-requires-clause-source : goal.read_last_all-requires-clause-source
read_last_all-requires-clause-source g c =
    let d = c.args.desk.now in
    let now = writer_source c.advance.new.desk.writer in
    subst (λ (l : List (Option FrameReader)). All (λ (reader : Option FrameReader). IfSome reader (λ r. reader_source r ≡ now)) l) (sym c.in-Ok.ensures.readers)
    (readers_of c.args.posts (writer_source d.writer) (writer_history d.writer) (d.stepper.frame.number + 1) c.args.list.items c.requires.late now c.in-Ok-advance.ensures.source)

pub returns-in-Ok-write_end-clause-done : goal.returns-in-Ok-write_end-clause-done
returns-in-Ok-write_end-clause-done g c =
    let d = c.args.desk.now in
    let a = c.advance.new.desk in
    let e = c.in-Ok-advance.ensures in
    let begin = sink_state (g.T.Sink.held d.start.value) (g.T.Sink.faults d.start.value) in
    let before = sink_state (g.T.Sink.held d.out) (g.T.Sink.faults d.out) in
    let start = sink_state (g.T.Sink.held a.start.value) (g.T.Sink.faults a.start.value) in
    let now = sink_state (g.T.Sink.held a.out) (g.T.Sink.faults a.out) in
    let end = sink_state (g.T.Sink.held c.write_end.new.out) (g.T.Sink.faults c.write_end.new.out) in
    let script = c.list_script-desk.ensures.posts in
    let left = c.items.ensures in
    let posters = c.in-Ok.ensures.posters in
    let is : IsLast c.args.posts d.writer a.writer d.stepper a.stepper c.args.taker c.args.list.items c.in-Ok-finish.left.items c.append.new.list.items = record {
      valid = c.scenario-valid.ensures.valid;
      scenario = e.scenario;
      source = e.source;
      number = e.number;
      history = e.history;
      listed = c.in-Ok-append.ensures ∙ (λ i. script i ++ left i);
      once = subst (λ (l : List PosterState). AreOnceInOrder l (c.args.taker.posts ++ c.in-Ok-finish.left.items)) posters c.in-Ok-finish.ensures.once_in_order;
      consecutive = c.in-Ok-finish.ensures.history.seqs;
      seen = subst (λ (l : List (Option FrameReader)). All (λ (reader : Option FrameReader). IfSome reader (λ r. StartsWith (writer_history a.writer) (reader_seen r))) l) c.in-Ok.ensures.readers c.read_last_all.ensures;
    } in
    let wrote : Appends now.held end.held (end_line a.stepper.frame.number) = subst (λ (f : Snapshot). Appends now.held end.held (end_line f.number)) c.frame.ensures.value c.in-Ok-write_end.ensures.text in
    lived begin before start now c.args.posts d.writer a.writer d.stepper a.stepper d.posts d.place c.args.taker c.args.list.items c.in-Ok-finish.left.items c.append.new.list.items c.requires e.running is end wrote c.in-Ok-write_end.ensures.cause.later

pub returns-clause-fault : goal.returns-clause-fault
returns-clause-fault g c =
    let a = c.advance.new.desk in
    let e = c.in-Ok-advance.ensures in
    let start = sink_state (g.T.Sink.held a.start.value) (g.T.Sink.faults a.start.value) in
    let now = sink_state (g.T.Sink.held a.out) (g.T.Sink.faults a.out) in
    let end = sink_state (g.T.Sink.held c.write_end.new.out) (g.T.Sink.faults c.write_end.new.out) in
    let wrote : AppendsPrefix now.held end.held (end_line a.stepper.frame.number) = subst (λ (f : Snapshot). AppendsPrefix now.held end.held (end_line f.number)) c.frame.ensures.value c.in-Err-write_end.ensures.text in
    running_cut_off start now end a.writer a.stepper e.running wrote c.in-Err-write_end.ensures.cause.later c.in-Err-write_end.ensures.cause.failed
