-- The laws of steps of arrays, as statements.
use Rattle.std.specs.Prelude.{◌≡◌, ℕ, ◌+◌, List, ◌++◌, length}
use Rattle.array_step.specs.declared.agent.CrowdAgent.{CrowdAgent}
use Rattle.array_step.specs.declared.segment.CrowdSegment.{CrowdSegment}
use Rattle.array_step.specs.Steps.{IsPart, IsStep}

-- equal arrays make equal steps
abbrev pub OneStep : List CrowdAgent → List CrowdSegment → ℕ → Type 0
OneStep agents segments ring = (new other : List CrowdAgent) → IsStep agents segments ring new → IsStep agents segments ring other → new ≡ other

-- two parts one behind the other make up one part, and a part that has all agents is the step
pub record PartsMakeAStep (agents : List CrowdAgent) (segments : List CrowdSegment) (ring : ℕ) : Type 0 where
  pub joined : (first : ℕ) (a b : List CrowdAgent) → IsPart agents segments ring first a → IsPart agents segments ring (first + length a) b
      → IsPart agents segments ring first (a ++ b)
  pub whole : (new : List CrowdAgent) → length new ≡ length agents → IsPart agents segments ring 0 new → IsStep agents segments ring new
