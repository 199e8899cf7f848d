-- An agent each of whose fields is within its limits is one of a scenario.
use Rattle.std.proofs.Common.{◌≡◌, ◌⊎◌, ◌<◌, ◌≤◌, ℕ, zero, suc, List, arith, subst}
use Rattle.crowd_data.specs.declared.limits.TheConstants.{GREATEST_COORDINATE, GREATEST_WEIGHT}
use Rattle.crowd_data.specs.Limits.{IsAgent, IsSegment, IsWeight}
use Rattle.array_step.specs.declared.agent.CrowdAgent.{CrowdAgent}
use Rattle.array_step.specs.declared.segment.CrowdSegment.{CrowdSegment}
use Rattle.array_step.specs.Arrays.{agent_of, segment_of, weight_of}
use Rattle.array_step.specs.Faults.{at, leasts, mosts, reaches_of, sizes_of, IsFieldOutside}

weight_within : (weight : ℕ) → weight ≤ GREATEST_WEIGHT → IsWeight (weight_of weight)
weight_within zero most = (omega arith, omega arith)
weight_within (suc n) most = (omega arith, omega (arith, most))

pub fields_within : (a : CrowdAgent) → ((k : ℕ) → k < 13 → (at leasts k ≤ at (sizes_of a) k) × (at (sizes_of a) k ≤ at mosts k)) → IsAgent (agent_of a)
fields_within a within = record {
  pos = ((within 0 (omega arith)).1, (within 1 (omega arith)).1);
  vel = ((within 2 (omega arith)).1, (within 3 (omega arith)).1);
  pref = ((within 4 (omega arith)).1, (within 5 (omega arith)).1);
  build = record {
    some_radius = (within 6 (omega arith)).0;
    radius = (within 6 (omega arith)).1;
    speed = (within 7 (omega arith)).1;
    range = (within 8 (omega arith)).1;
    most = (within 9 (omega arith)).1;
    some_horizon = (within 10 (omega arith)).0;
    horizon = (within 10 (omega arith)).1;
    some_wall_horizon = (within 11 (omega arith)).0;
    wall_horizon = (within 11 (omega arith)).1;
    weight = weight_within a.weight (within 12 (omega arith)).1;
  };
}

pub coordinates_within : (s : CrowdSegment) → ((k : ℕ) → k < 4 → at (reaches_of s) k ≤ GREATEST_COORDINATE) → IsSegment (segment_of s)
coordinates_within s within = record { a = (within 0 (omega arith), within 1 (omega arith)); b = (within 2 (omega arith), within 3 (omega arith)) }

-- the first field that is outside of its limits, by a list of sizes
pub first_outside : (a : CrowdAgent) (sizes : List ℕ) (field : ℕ) → sizes ≡ sizes_of a → field < 13 → (at sizes field < at leasts field) ⊎ (at mosts field < at sizes field)
    → ((k : ℕ) → k < field → (at leasts k ≤ at sizes k) × (at sizes k ≤ at mosts k)) → IsFieldOutside a field
first_outside a sizes field e there outside within = record {
  there = there;
  outside = subst (λ (list : List ℕ). (at list field < at leasts field) ⊎ (at mosts field < at list field)) e outside;
  least = subst (λ (list : List ℕ). (k : ℕ) → k < field → (at leasts k ≤ at list k) × (at list k ≤ at mosts k)) e within;
}
