-- What a step makes of arrays, and what a part of it makes.
use Rattle.std.specs.Prelude.{◌≡◌, ℕ, List, [], drop, length, take}
use Rattle.std.specs.List.{All}
use Rattle.crowd_data.specs.Limits.{IsPosition}
use Rattle.crowd_data.specs.Run.{IsNext, Snapshot, start_of}
use Rattle.crowd_data.specs.SafeSteps.{IsSafeStep}
use Rattle.crowd_data.specs.Scenario.{IsValid}
use Rattle.array_step.specs.declared.agent.CrowdAgent.{CrowdAgent}
use Rattle.array_step.specs.declared.segment.CrowdSegment.{CrowdSegment}
use Rattle.array_step.specs.Arrays.{agent_of, all_moved, scenario_of}

-- no agent is farther out than an agent of a scenario may be
abbrev pub AllInside : List CrowdAgent → Type 0
AllInside agents = All (λ (a : CrowdAgent). IsPosition (agent_of a).pos) agents

-- the arrays stand for a scenario, each agent moves as its body does in the next frame, and the step is safe
pub record IsStep (agents : List CrowdAgent) (segments : List CrowdSegment) (ring : ℕ) (new : List CrowdAgent) : Type 0 where
  pub valid : IsValid (scenario_of agents segments ring)
  pub next : Snapshot
  pub step : IsNext (scenario_of agents segments ring) (start_of (scenario_of agents segments ring)) [] next
  pub safe : IsSafeStep (scenario_of agents segments ring) (start_of (scenario_of agents segments ring)) next
  pub moved : new ≡ all_moved agents next.bodies
  -- what came out can be handed in again, unless an agent has left the world
  pub again : AllInside new → IsValid (scenario_of new segments ring)

-- agents that stand in a step from this number on
pub record IsPart (agents : List CrowdAgent) (segments : List CrowdSegment) (ring first : ℕ) (moved : List CrowdAgent) : Type 0 where
  pub new : List CrowdAgent
  pub step : IsStep agents segments ring new
  pub part : moved ≡ take (length moved) (drop first new)
