use Rattle.std.proofs.Common.{◌≡◌, ◌∙◌, [], drop, rules, subst}
use Rattle.crowd_data.specs.Run.{IsNext, Snapshot, start_of}
use Rattle.crowd_data.specs.Scenario.{IsValid, Parts}
use Rattle.array_step.specs.Arrays.{all_moved}
use Rattle.array_step.proofs.FaultCauses.{told_memory}
use Rattle.array_step.proofs.StepMade.{step_made}
use Rattle.array_step.proofs.moves.step.Goals as goal

pub returns-in_err-scenario-clause-accepted : goal.returns-in_err-scenario-clause-accepted
returns-in_err-scenario-clause-accepted c valid =
    let e = told_memory c.args.agents.now c.args.segments.now c.args.ring valid _ c.in_err-scenario.ensures.refused in
    search rules

pub returns-clause-done : goal.returns-clause-done
returns-clause-done c =
    let agents = c.args.agents.now in
    let same = c.in_ok-first_step.ensures ∙ c.in_ok-scenario.ensures.value in
    step_made agents c.args.segments.now c.args.ring (subst IsValid c.in_ok-scenario.ensures.value c.in_ok-scenario.ensures.valid) _
    (subst (λ (s : Parts). (next : Snapshot) → IsNext s (start_of s) [] next → c.move_from.new.agents ≡ all_moved agents (drop 0 next.bodies)) same c.move_from.ensures)
