use Rattle.outside_io.specs.Sinks.{sink_state}
use Rattle.live_session.proofs.Written.{ended_here}
use Rattle.live_session.proofs.frames.run_frames.Goals as goal

pub returns-in-Err-clause-fault : goal.returns-in-Err-clause-fault
returns-in-Err-clause-fault g c =
    let d = c.args.desk.now in
    ended_here (sink_state (g.T.Sink.held d.start.value) (g.T.Sink.faults d.start.value)) (sink_state (g.T.Sink.held d.out) (g.T.Sink.faults d.out)) d.writer d.stepper c.requires.under_way.running
