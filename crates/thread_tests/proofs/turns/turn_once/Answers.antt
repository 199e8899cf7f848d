use Rattle.std.proofs.Common.{ℕ, List, length, get_or, ap, arith, sym, subst}
use Rattle.std.specs.List.{All}
use Rattle.crowd_data.specs.Limits.{IsGoal}
use Rattle.crowd_data.specs.Run.{Snapshot, start_of}
use Rattle.crowd_data.proofs.Frames.{start_present}
use Rattle.post_box.specs.Ends.{PosterState}
use Rattle.controller_turns.specs.Controllers.{CanTurn, ControllerState}
use Rattle.controller_turns.proofs.Posters.{present_can_turn}
use Rattle.thread_tests.proofs.turns.turn_once.Goals as goal

pub turn-done-requires-clause-frame : goal.turn-done-requires-clause-frame
turn-done-requires-clause-frame g c =
    let scenario = c.in_ok-scenario.scenario in
    let known = c.in_ok-scenario.ensures in
    let goals = c.in_ok-two_goals.field-0.items in
    let limits = subst (λ (n : ℕ). All (IsGoal n) goals) (sym known.agents) c.in_ok-two_goals.ensures.limits in
    let can = present_can_turn scenario goals (start_of scenario) (omega (arith, known.steps)) (start_present scenario known.valid) limits in
    subst (λ (x : ControllerState × Snapshot). CanTurn x.0.goals x.1) (λ i. (sym c.of-controller.ensures i, sym c.in_ok-frame.ensures i)) can

pub turn-done-requires-clause-agents : goal.turn-done-requires-clause-agents
turn-done-requires-clause-agents g c =
    let scenario = c.in_ok-scenario.scenario in
    let known = c.in_ok-scenario.ensures in
    let bodies = ap (λ (s : Snapshot). length s.bodies) c.in_ok-frame.ensures in
    let full = (start_present scenario known.valid).full in
    let poster = ap (λ (p : PosterState). p.agents) c.index_mut.ensures.value in
    let agents = ap (λ (l : List PosterState). (get_or l 1 c.index_mut.result.now).agents) c.in_ok-posts.ensures.posters in
    omega (arith, bodies, full, known.agents, poster, agents)
