-- Arrays with a fault stand for no scenario.
use Rattle.std.proofs.Common.{◌≡◌, ◌∙◌, ⊎_elim, ℕ, zero, suc, ◌<◌, ◌≤◌, List, [], ◌∷◌, length, map, Some, slice_get, option_map, arith, ap, refl}
use Rattle.std.specs.List.{All}
use Rattle.std.proofs.lemmas.List.{length-map}
use Rattle.std.proofs.lemmas.List.Elements.{All-from_recursion}
use Rattle.std.proofs.lemmas.Option.{slice_get-map}
use Rattle.exact_algebra.proofs.Elements.{all_at}
use Rattle.crowd_data.specs.declared.agent.Agent.{Agent}
use Rattle.crowd_data.specs.declared.limits.TheConstants.{GREATEST_COORDINATE, GREATEST_WEIGHT}
use Rattle.crowd_data.specs.Limits.{IsAgent, IsSegment, IsWeight}
use Rattle.crowd_data.specs.Scenario.{IsValid}
use Rattle.crowd_data.specs.Walls.{IsClear}
use Rattle.array_step.specs.declared.agent.CrowdAgent.{CrowdAgent}
use Rattle.array_step.specs.declared.segment.CrowdSegment.{CrowdSegment}
use Rattle.array_step.specs.declared.fault.ArrayFault.{ArrayFault}
use Rattle.array_step.specs.declared.fault.ArrayFault.TheVariants.{NoSuchRing, TooManyAgents, AgentOutOfRange, TooManySegments, SegmentOutOfRange, AgentOnSegment}
use Rattle.array_step.specs.declared.fault.StepFault.{StepFault}
use Rattle.array_step.specs.declared.fault.StepFault.TheVariants.{NoMemory, Arrays}
use Rattle.array_step.specs.Arrays.{agent_of, scenario_of, segment_of, weight_of}
use Rattle.array_step.specs.Faults.{IsCoordinateOutside, IsFault, IsFieldOutside, Tells, at, leasts, mosts, reaches_of, sizes_of}

-- ---- items of lists

mapped_item : {A B : Type 0} (f : A → B) (xs : List A) (k : ℕ) (x : A) → slice_get xs k ≡ Some x → slice_get (map f xs) k ≡ Some (f x)
mapped_item f xs k x e = slice_get-map f xs k ∙ ap (option_map f) e

-- ---- limits

-- each size lies between its limits
abbrev Fit : List ℕ → List ℕ → List ℕ → Type 0
Fit [] ls ms = Unit {0}
Fit (s ∷ ss) [] ms = ⊥
Fit (s ∷ ss) (l ∷ ls) [] = ⊥
Fit (s ∷ ss) (l ∷ ls) (m ∷ ms) = ((l ≤ s) × (s ≤ m)) × Fit ss ls ms

fit_at : (ss ls ms : List ℕ) (k : ℕ) → Fit ss ls ms → k < length ss → (at ls k ≤ at ss k) × (at ss k ≤ at ms k)
fit_at [] ls ms k fit h = absurd (omega arith)
fit_at (s ∷ ss) [] ms k fit h = absurd fit
fit_at (s ∷ ss) (l ∷ ls) [] k fit h = absurd fit
fit_at (s ∷ ss) (l ∷ ls) (m ∷ ms) zero fit h = fit.0
fit_at (s ∷ ss) (l ∷ ls) (m ∷ ms) (suc k) fit h = fit_at ss ls ms k fit.1 (omega arith)

none_less : (n : ℕ) → 0 ≤ n
none_less n = omega arith

weight_fits : (weight : ℕ) → IsWeight (weight_of weight) → weight ≤ GREATEST_WEIGHT
weight_fits zero is = omega arith
weight_fits (suc n) is = omega (arith, is)

agent_fits : (a : CrowdAgent) → IsAgent (agent_of a) → Fit (sizes_of a) leasts mosts
agent_fits a is = (
  (none_less _, is.pos.0),
  (
    (none_less _, is.pos.1),
    (
      (none_less _, is.vel.0),
      (
        (none_less _, is.vel.1),
        (
          (none_less _, is.pref.0),
          (
            (none_less _, is.pref.1),
            (
              (is.build.some_radius, is.build.radius),
              (
                (none_less _, is.build.speed),
                (
                  (none_less _, is.build.range),
                  (
                    (none_less _, is.build.most),
                    (
                      (is.build.some_horizon, is.build.horizon),
                      ((is.build.some_wall_horizon, is.build.wall_horizon), ((none_less _, weight_fits a.weight is.build.weight), tt)),
                    ),
                  ),
                ),
              ),
            ),
          ),
        ),
      ),
    ),
  ),
)

agent_inside : (a : CrowdAgent) (field : ℕ) → IsAgent (agent_of a) → IsFieldOutside a field → ⊥
agent_inside a field is outside =
    let fit = fit_at (sizes_of a) leasts mosts field (agent_fits a is) outside.there in
    ⊎_elim (λ low. omega (arith, low, fit.0)) (λ high. omega (arith, high, fit.1)) outside.outside

segment_inside : (s : CrowdSegment) (field : ℕ) → IsSegment (segment_of s) → IsCoordinateOutside s field → ⊥
segment_inside s field is outside =
    let P : ℕ → Type 0 = λ n. n ≤ GREATEST_COORDINATE in
    let all : All P (reaches_of s) = All-from_recursion P (reaches_of s) (is.a.0, (is.a.1, (is.b.0, (is.b.1, tt)))) in
    omega (arith, all field 0 outside.there, outside.outside)

-- ---- faults

module _ (agents : List CrowdAgent) (segments : List CrowdSegment) (ring : ℕ) (valid : IsValid (scenario_of agents segments ring)) where
  fault_invalid : (fault : ArrayFault) → IsFault agents segments ring fault → ⊥
  fault_invalid NoSuchRing none = none valid.ring
  fault_invalid TooManyAgents (known, many) = omega (arith, many, valid.agent_count, length-map agents agent_of)
  fault_invalid (AgentOutOfRange who field) (known, few, o) =
      agent_inside o.agent field (all_at IsAgent (map agent_of agents) who (agent_of o.agent) valid.agents (mapped_item agent_of agents who o.agent o.agent_is)) o.outside
  fault_invalid TooManySegments (known, are, many) = omega (arith, many, valid.segment_count, length-map segments segment_of)
  fault_invalid (SegmentOutOfRange which field) (known, are, few, o) =
      segment_inside o.segment field
      (all_at IsSegment (map segment_of segments) which (segment_of o.segment) valid.segments (mapped_item segment_of segments which o.segment o.segment_is)) o.outside
  fault_invalid (AgentOnSegment who which) (known, are, too, on) =
      on.touched
      (all_at (IsClear on.agent.pos on.agent.radius) (map segment_of segments) which on.segment
      (all_at (λ (agent : Agent). All (IsClear agent.pos agent.radius) (map segment_of segments)) (map agent_of agents) who on.agent valid.clear on.agent_is) on.segment_is)

  pub told_memory : (e : StepFault) → Tells agents segments ring e → e ≡ NoMemory
  told_memory NoMemory told = refl
  told_memory (Arrays fault) told = absurd (fault_invalid fault told)
