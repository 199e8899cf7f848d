use Rattle.std.proofs.Common.{◌≡◌, ◌∙◌, ◌+◌, ◌*◌, ◌≤◌, ap, arith, length, map, mul-le-mul, subst, sym, ℕ, List}
use Rattle.std.specs.List.{range_with_len}
use Rattle.crowd_data.specs.Scenario.{Parts, controllers_of}
use Rattle.crowd_data.specs.Scripts.{IsCursor, no_post}
use Rattle.post_box.specs.Ends.{TakerState, first_poster}
use Rattle.post_box.specs.History.{posts_by}
use Rattle.published_frames.specs.declared.entry.Step.{Step}
use Rattle.published_frames.specs.Taken.{posts_of}
use Rattle.outside_io.specs.Sinks.{sink_state}
use Rattle.live_session.proofs.GoalCount.{goals_few}
use Rattle.crowd_data.proofs.Controllers.{controllers_few}
use Rattle.crowd_data.specs.declared.limits.TheConstants.{MOST_AGENTS}
use Rattle.live_session.proofs.Written.{ended_here}
use Rattle.live_session.proofs.run.run_desk.Goals as goal

pub overflow_cast-most : goal.overflow_cast-most
overflow_cast-most g c =
    let few = goals_few c.scenario-scenario.result.now c.goals.ensures.valid in
    let count = ap (λ l. length l) c.goals.ensures.value in
    omega (arith, few, count, c.goals.ensures.valid.agent_count)

pub overflow_mul-most-2 : goal.overflow_mul-most-2
overflow_mul-most-2 g c =
    let few = goals_few c.scenario-scenario.result.now c.goals.ensures.valid in
    let count = ap (λ l. length l) c.goals.ensures.value in
    let goals : length c.goals.result.now ≤ MOST_AGENTS = omega (arith, few, count, c.goals.ensures.valid.agent_count) in
    let steps : 2 * c.steps.result + 3 ≤ 200003 = omega (arith, c.steps.ensures.value, c.goals.ensures.valid.steps) in
    let most : (2 * c.steps.result + 3) * length c.goals.result.now ≤ 200003 * MOST_AGENTS = mul-le-mul steps goals in
    omega (arith, most)

pub open-requires : goal.open-requires
open-requires g c =
    let scenario = c.scenario-scenario.result.now in
    let few = controllers_few (length scenario.agents) scenario.goals c.goals.ensures.valid.goals in
    omega (arith, few, c.controllers-controllers.ensures)

pub returns-in-Err-clause-fault : goal.returns-in-Err-clause-fault
returns-in-Err-clause-fault g c =
    let d = c.args.desk in
    ended_here (sink_state (g.T.Sink.held d.start.value) (g.T.Sink.faults d.start.value)) (sink_state (g.T.Sink.held d.out) (g.T.Sink.faults d.out)) d.writer d.stepper c.requires.running

pub returns-in-Err-notices_for-clause-fault : goal.returns-in-Err-notices_for-clause-fault
returns-in-Err-notices_for-clause-fault g c =
    let d = c.args.desk in
    ended_here (sink_state (g.T.Sink.held d.start.value) (g.T.Sink.faults d.start.value)) (sink_state (g.T.Sink.held d.out) (g.T.Sink.faults d.out)) d.writer d.stepper c.requires.running

pub with_threads-requires-after_bounds : goal.with_threads-requires-after_bounds
with_threads-requires-after_bounds g c = λ κs lives.
    let d = c.args.desk in
    let same = c.scenario-scenario.ensures.value in
    let controllers = c.controllers-controllers.ensures ∙ ap (λ (p : Parts). controllers_of p.goals) same in
    let agents = ap (λ l. length l) c.agents.ensures.value ∙ ap (λ (p : Parts). length p.agents) same in
    let steps = c.steps.ensures.value ∙ ap (λ (p : Parts). p.steps) same in
    let goals = ap (λ l. length l) c.goals.ensures.value ∙ ap (λ (p : Parts). length p.goals) same in
    let taker = c.in-Ok.ensures.taker in
    let valid = c.goals.ensures.valid in
    let number = c.requires.running.published.number ∙ ap (λ (h : List Step). length h) c.requires.first in
    record {
      under_way = record {
        running = c.requires.running;
        taking = record {
          box_is = ap (λ (t : TakerState). t.queue) taker;
          controllers = ap (λ (t : TakerState). t.controllers) taker ∙ controllers;
          agents = ap (λ (t : TakerState). t.agents) taker ∙ agents;
          taken = λ controller below. ap (λ (h : List Step). posts_by controller (posts_of h)) c.requires.first ∙ ap (λ (t : TakerState). posts_by controller t.posts) (sym taker);
        };
        cursor =
            let first : IsCursor c.scenario-scenario.result.now.posts 1 0 = record { within = omega arith; before = λ k h. absurd (omega (arith, h)); behind = λ k a h. (valid.posts k no_post h).some_frame } in
            let at : 1 ≡ d.stepper.frame.number + 1 = omega (arith, number) in
            subst (λ (x : Parts × ℕ × ℕ). IsCursor x.0.posts x.1 x.2) (λ i. (same i, at i, sym c.requires.place i)) first;
        room = c.requires.room;
      };
      some_steps = c.requires.some_steps;
      first = c.requires.first;
      source = c.requires.source;
      posters_are = c.in-Ok.ensures.posters ∙ (λ i. map (first_poster c.in-Ok.opened.0.queue (agents i) ((2 * steps i + 3) * goals i)) (range_with_len 0 (controllers i)));
      readers_are = c.requires.readers;
      notices_are = ap (λ l. length l) c.as_slice.ensures.value ∙ (c.in-Ok-notices_for.ensures ∙ controllers);
    }
