use Rattle.std.proofs.Common.{◌≡◌, ◌+◌, ap, arith, length, subst, sym, ℕ}
use Rattle.published_frames.specs.Names.{writer_history, writer_source}
use Rattle.fixed_vec.specs.Held.{Held}
use Rattle.crowd_data.specs.declared.post.Post.{Post}
use Rattle.crowd_data.specs.Scenario.{Parts}
use Rattle.crowd_data.specs.Scripts.{IsCursor}
use Rattle.outside_io.specs.Sinks.{sink_state}
use Rattle.live_session.specs.Running.{step_to}
use Rattle.crowd_data.proofs.Controllers.{controllers_few}
use Rattle.live_session.proofs.Standing.{steering_next}
use Rattle.live_session.proofs.Taken.{gathered, taking_next}
use Rattle.live_session.proofs.Written.{ended_here}
use Rattle.live_session.proofs.frames.next_frame.Goals as goal

pub returns-in-Err-clause-fault : goal.returns-in-Err-clause-fault
returns-in-Err-clause-fault g c =
    let d = c.args.desk.now in
    ended_here (sink_state (g.T.Sink.held d.start.value) (g.T.Sink.faults d.start.value)) (sink_state (g.T.Sink.held d.out) (g.T.Sink.faults d.out)) d.writer d.stepper c.requires.under_way.running

pub advance-requires-clause-posts : goal.advance-requires-clause-posts
advance-requires-clause-posts g c κs within =
    let d = c.args.desk.now in
    gathered c.args.posts.now d.stepper.scenario (writer_history d.writer) (d.stepper.frame.number + 1) c.args.taker.now c.gather-desk.new.taker c.gather-desk.new.list.items c.requires.under_way.taking c.gather-desk.ensures.moved

pub renew_all-requires-clause-few : goal.renew_all-requires-clause-few
renew_all-requires-clause-few g c =
    let scenario = c.args.desk.now.stepper.scenario in
    let few = controllers_few (length scenario.agents) scenario.goals c.scenario-valid.ensures.valid.goals in
    omega (arith, few, c.requires.notices)

pub returns-clause-under_way : goal.returns-clause-under_way
returns-clause-under_way g c =
    let d = c.args.desk.now in
    let a = c.advance.new.desk in
    let e = c.in-Ok-advance.ensures in
    let scenario = d.stepper.scenario in
    record {
      running = e.running;
      taking = taking_next c.args.posts.now scenario a.stepper.scenario (writer_history d.writer) (writer_history a.writer) a.stepper.frame (d.stepper.frame.number + 1) c.args.taker.now c.gather-desk.new.taker c.gather-desk.new.list.items
          (controllers_few (length scenario.agents) scenario.goals c.scenario-valid.ensures.valid.goals) e.scenario e.history c.requires.under_way.taking c.gather-desk.ensures.moved;
      cursor =
          let number : d.stepper.frame.number + 2 ≡ a.stepper.frame.number + 1 = omega (arith, e.number) in
          subst (λ (x : Parts × ℕ × ℕ). IsCursor x.0.posts x.1 x.2) (λ i. (sym e.scenario i, number i, sym e.list.1 i)) c.gather-desk.ensures.cursor;
      room =
          let posts = ap (λ (p : Parts). length p.posts) e.scenario in
          let items = ap (λ (l : Held Post). length l.items + l.spare) e.list.0 in
          omega (arith, posts, items, c.gather-desk.ensures.room, c.requires.under_way.room);
    }

pub returns-clause-steering : goal.returns-clause-steering
returns-clause-steering g c =
    let d = c.args.desk.now in
    let a = c.advance.new.desk in
    let e = c.in-Ok-advance.ensures in
    steering_next c.args.posts.now (writer_source d.writer) (writer_source a.writer) (writer_history d.writer) (writer_history a.writer) (step_to a.stepper.frame c.gather-desk.new.list.items) (d.stepper.frame.number + 1) a.stepper.frame.number c.own_turns.new.list.items
    e.source e.history e.number c.in-Ok.ensures.steering
