-- A step of arrays, and the slices of it.
use Rattle.std.proofs.Common.{◌≡◌, ◌∙◌, ℕ, zero, suc, ◌+◌, ◌-◌, List, [], ◌∷◌, drop, length, map, slice_range, take, refl, ap, sym, subst, arith}
use Rattle.std.proofs.lemmas.List.{drop-map, take-map}
use Rattle.crowd_data.specs.declared.frame.Body.{Body}
use Rattle.crowd_data.specs.Run.{IsNext, Snapshot, start_of}
use Rattle.crowd_data.specs.Scenario.{IsValid, Parts}
use Rattle.crowd_data.proofs.Frames.{start_present}
use Rattle.run_law.proofs.OneValue.{one_next}
use Rattle.run_law.proofs.Runs.{step_safe, step_sound}
use Rattle.run_law.proofs.SomeNext.{some_next}
use Rattle.run_law.proofs.Sound.{start_sound}
use Rattle.array_step.specs.declared.agent.CrowdAgent.{CrowdAgent}
use Rattle.array_step.specs.declared.segment.CrowdSegment.{CrowdSegment}
use Rattle.array_step.specs.Arrays.{agent_of, all_moved, moved_by, scenario_of}
use Rattle.array_step.specs.Steps.{IsPart, IsStep}
use Rattle.array_step.proofs.HandedAgain.{valid_again}

-- ---- slices

drop-all_moved : (n : ℕ) (agents : List CrowdAgent) (bodies : List Body) → drop n (all_moved agents bodies) ≡ all_moved (drop n agents) (drop n bodies)
drop-all_moved zero agents bodies = refl
drop-all_moved (suc n) [] bodies = refl
drop-all_moved (suc n) (a ∷ agents) [] = sym (unmoved (drop n agents))
  where
    unmoved : (list : List CrowdAgent) → all_moved list [] ≡ list
    unmoved [] = refl
    unmoved (a ∷ list) = refl
drop-all_moved (suc n) (a ∷ agents) (b ∷ bodies) = drop-all_moved n agents bodies

take-all_moved : (n : ℕ) (agents : List CrowdAgent) (bodies : List Body) → take n (all_moved agents bodies) ≡ all_moved (take n agents) bodies
take-all_moved zero agents bodies = refl
take-all_moved (suc n) [] bodies = refl
take-all_moved (suc n) (a ∷ agents) [] = refl
take-all_moved (suc n) (a ∷ agents) (b ∷ bodies) = ap (λ list. moved_by a b ∷ list) (take-all_moved n agents bodies)

-- a range of agents stands for the agents of the scenario that have these numbers
module _ (agents new : List CrowdAgent) (first n : ℕ) (count : length new ≡ n) (are : new ≡ slice_range agents first (first + n)) where
  pub range_is : new ≡ take (length new) (drop first agents)
  range_is = let same : first + n - first ≡ length new = omega (arith, count) in are ∙ ap (λ k. take k (drop first agents)) same

  pub stands_for_range : map agent_of new ≡ take (length new) (drop first (map agent_of agents))
  stands_for_range =
      ap (map agent_of) range_is ∙ sym (take-map agent_of (length new) (drop first agents)) ∙ ap (take (length new)) (sym (drop-map agent_of first agents))

-- ---- what a step of arrays is

module _ (agents : List CrowdAgent) (segments : List CrowdSegment) (ring : ℕ) (valid : IsValid (scenario_of agents segments ring)) where
  abbrev scenario : Parts
  scenario = scenario_of agents segments ring

  pub some_step : (next : Snapshot) × IsNext scenario (start_of scenario) [] next
  some_step = some_next scenario (start_of scenario) [] valid (start_present scenario valid).full (omega arith)

  pub step_of : (next : Snapshot) → IsNext scenario (start_of scenario) [] next → IsStep agents segments ring (all_moved agents next.bodies)
  step_of next step =
      let sound = start_sound scenario valid in
      record {
        valid = valid;
        next = next;
        step = step;
        safe = step_safe scenario valid (start_of scenario) next [] sound step;
        moved = refl;
        again = valid_again agents segments ring next valid (step_sound scenario valid (start_of scenario) next [] sound step);
      }

  pub step_made : (new : List CrowdAgent) → ((next : Snapshot) → IsNext scenario (start_of scenario) [] next → new ≡ all_moved agents next.bodies) → IsStep agents segments ring new
  step_made new made =
      let (next, step) = some_step in
      subst (IsStep agents segments ring) (sym (made next step)) (step_of next step)

  pub part_made : (first : ℕ) (old moved : List CrowdAgent) → length moved ≡ length old → old ≡ take (length old) (drop first agents)
      → ((next : Snapshot) → IsNext scenario (start_of scenario) [] next → moved ≡ all_moved old (drop first next.bodies)) → IsPart agents segments ring first moved
  part_made first old moved count are made =
      let (next, step) = some_step in
      let are : old ≡ take (length moved) (drop first agents) = are ∙ ap (λ n. take n (drop first agents)) (sym count) in
      record {
        new = all_moved agents next.bodies;
        step = step_of next step;
        part =
            made next step ∙ ap (λ list. all_moved list (drop first next.bodies)) are ∙ sym (take-all_moved (length moved) (drop first agents) (drop first next.bodies))
            ∙ ap (take (length moved)) (sym (drop-all_moved first agents next.bodies));
      }

-- ---- one value

pub one_step : (agents : List CrowdAgent) (segments : List CrowdSegment) (ring : ℕ) (new other : List CrowdAgent) → IsStep agents segments ring new → IsStep agents segments ring other → new ≡ other
one_step agents segments ring new other one two =
    let s = scenario_of agents segments ring in
    one.moved ∙ ap (λ (next : Snapshot). all_moved agents next.bodies) (one_next s (start_of s) [] one.next two.next one.step two.step) ∙ sym two.moved
