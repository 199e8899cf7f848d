use Rattle.std.proofs.Common.{◌≡◌, length}
use Rattle.crowd_data.specs.Scenario.{controllers_of}
use Rattle.published_frames.specs.Names.{writer_history, writer_source}
use Rattle.outside_io.specs.Sinks.{sink_state}
use Rattle.live_session.specs.Session.{IsUnderWay}
use Rattle.live_session.specs.Steering.{AreSteering}
use Rattle.live_session.proofs.frames.run_frames.Given as goal

abbrev pub invariant-loop : goal.invariant-loop
invariant-loop g l = record {
  start : l.desk.start ≡ l.fn.desk.start;
  queue : l.taker.queue ≡ l.fn.taker.queue;
  source : writer_source l.desk.writer ≡ writer_source l.fn.desk.writer;
  scenario : l.desk.stepper.scenario ≡ l.fn.desk.stepper.scenario;
  number : l.desk.stepper.frame.number ≡ l.counter;
  count : length l.list.items ≡ controllers_of l.desk.stepper.scenario.goals;
  under_way : IsUnderWay (sink_state (g.T.Sink.held l.desk.start.value) (g.T.Sink.faults l.desk.start.value)) (sink_state (g.T.Sink.held l.desk.out) (g.T.Sink.faults l.desk.out)) l.posts l.desk.writer l.desk.stepper l.desk.posts l.desk.place l.taker;
  steering : AreSteering l.posts (writer_source l.desk.writer) (writer_history l.desk.writer) l.desk.stepper.frame.number l.list.items;
}
