-- What the records that are left make of what was read and of a cause that was found.
use Rattle.std.specs.Prelude.{◌≡◌, ◌⊎◌, ℕ, List, Some, None, Result, Ok, Err}
use Rattle.std.specs.declared.option.Option.{Option}
use Rattle.crowd_data.specs.Scenario.{Parts}
use Rattle.scenario_read.specs.declared.cause.Cause.{Cause}
use Rattle.scenario_read.specs.declared.cause.Cause.TheVariants.{AgentOnSegment}
use Rattle.scenario_read.specs.declared.cause.ScenarioFault.{ScenarioFault}
use Rattle.scenario_read.specs.declared.cause.ScenarioFault.TheVariants.{NoMemory, At}
use Rattle.scenario_read.specs.declared.refusal.Refusal.{Refusal}
use Rattle.scenario_read.specs.Read.{Read}
use Rattle.crowd_data.specs.Standing.{AllClear, OnSegment}
use Rattle.scenario_read.specs.Reading.{outcome_from}
use Rattle.scenario_read.specs.Records.{Record}

-- a cause that was found stays the first one
abbrev pub outcome_with : Read → Option Refusal → ℕ → List Record → Result Parts (ℕ × Cause)
outcome_with p None k rest = outcome_from p k rest
outcome_with p (Some r) k rest = Err (r.index, r.cause)

-- an agent on a segment
pub record EndsOnSegment (outcome : Result Parts (ℕ × Cause)) (count index : ℕ) (cause : Cause) : Type 0 where
  pub scenario : Parts
  pub who : ℕ
  pub which : ℕ
  pub read : outcome ≡ Ok scenario
  pub on : OnSegment scenario.agents scenario.segments who which
  pub index_is : index ≡ count
  pub cause_is : cause ≡ AgentOnSegment who which

-- what a scenario at the end of the records says
pub record EndsAccepted (outcome : Result Parts (ℕ × Cause)) (scenario : Parts) : Type 0 where
  pub read : outcome ≡ Ok scenario
  pub clear : AllClear scenario.agents scenario.segments

-- what a fault at the end of the records says
abbrev pub EndsRefused : Result Parts (ℕ × Cause) → ℕ → ScenarioFault → Type 0
EndsRefused outcome count NoMemory = ⊥
EndsRefused outcome count (At index cause) = (outcome ≡ Err (index, cause)) ⊎ EndsOnSegment outcome count index cause
