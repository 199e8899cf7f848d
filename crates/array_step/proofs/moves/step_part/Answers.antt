use Rattle.std.proofs.Common.{◌≡◌, ◌∙◌, [], ap, drop, length, rules, subst, sym, take}
use Rattle.crowd_data.specs.Run.{IsNext, Snapshot, start_of}
use Rattle.crowd_data.specs.Scenario.{IsValid, Parts}
use Rattle.array_step.specs.Arrays.{all_moved}
use Rattle.array_step.proofs.FaultCauses.{told_memory}
use Rattle.array_step.proofs.StepMade.{part_made, range_is, stands_for_range}
use Rattle.array_step.proofs.moves.step_part.Goals as goal

pub returns-in_err-scenario-clause-accepted : goal.returns-in_err-scenario-clause-accepted
returns-in_err-scenario-clause-accepted c valid =
    let e = told_memory c.args.agents.now c.args.segments.now c.args.ring valid _ c.in_err-scenario.ensures.refused in
    search rules

pub move_from-requires-clause-are : goal.move_from-requires-clause-are
move_from-requires-clause-are c =
    let new = c.copy_from_slice.new.self in
    let same = c.in_ok-first_step.ensures ∙ c.in_ok-scenario.ensures.value in
    stands_for_range c.args.agents.now new c.args.first _ c.copy_from_slice.ensures.len c.copy_from_slice.ensures.after
    ∙ ap (λ (s : Parts). take (length new) (drop c.args.first s.agents)) (sym same)

pub returns-clause-done : goal.returns-clause-done
returns-clause-done c =
    let agents = c.args.agents.now in
    let segments = c.args.segments.now in
    let ring = c.args.ring in
    let first = c.args.first in
    let old = c.copy_from_slice.new.self in
    let new = c.move_from.new.agents in
    let same = c.in_ok-first_step.ensures ∙ c.in_ok-scenario.ensures.value in
    let valid = subst IsValid c.in_ok-scenario.ensures.value c.in_ok-scenario.ensures.valid in
    part_made agents segments ring valid first old new c.move_from.auto.agents (range_is agents old first _ c.copy_from_slice.ensures.len c.copy_from_slice.ensures.after)
    (subst (λ (s : Parts). (next : Snapshot) → IsNext s (start_of s) [] next → new ≡ all_moved old (drop first next.bodies)) same c.move_from.ensures)
