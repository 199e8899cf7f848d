use Rattle.published_frames.specs.Names.{writer_history, writer_source}
use Rattle.outside_io.specs.Sinks.{sink_state}
use Rattle.live_session.proofs.Written.{ended_here}
use Rattle.live_session.proofs.frames.drive.Goals as goal

pub returns-in-Err-join_all-clause-fault : goal.returns-in-Err-join_all-clause-fault
returns-in-Err-join_all-clause-fault g c =
    let d = c.run_frames-ran.new.desk in
    ended_here (sink_state (g.T.Sink.held d.start.value) (g.T.Sink.faults d.start.value)) (sink_state (g.T.Sink.held d.out) (g.T.Sink.faults d.out)) d.writer d.stepper c.in-Ok.ensures.under_way.running

pub last_turns-requires-clause-steered : goal.last_turns-requires-clause-steered
last_turns-requires-clause-steered g c =
    let d = c.run_frames-ran.new.desk in
    c.in-Ok-join_all.ensures.steered c.args.posts.now (writer_source d.writer) (writer_history d.writer) d.stepper.frame.number c.in-Ok.ensures.steering

pub returns-in-Err-last_turns-clause-fault : goal.returns-in-Err-last_turns-clause-fault
returns-in-Err-last_turns-clause-fault g c =
    let d = c.run_frames-ran.new.desk in
    ended_here (sink_state (g.T.Sink.held d.start.value) (g.T.Sink.faults d.start.value)) (sink_state (g.T.Sink.held d.out) (g.T.Sink.faults d.out)) d.writer d.stepper c.in-Ok.ensures.under_way.running
