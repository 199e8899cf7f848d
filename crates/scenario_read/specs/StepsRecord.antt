-- The record of the steps: steps,N
use Rattle.std.specs.Prelude.{ℕ, ◌==◌, if◌then◌else◌, length, Some, None, Result, Ok, Err}
use Rattle.std.specs.declared.option.Option.{Option}
use Rattle.crowd_data.specs.declared.limits.TheConstants.{MOST_STEPS}
use Rattle.scenario_read.specs.declared.cause.Cause.{Cause}
use Rattle.scenario_read.specs.declared.cause.Cause.TheVariants.{FieldCount, StepsTwice}
use Rattle.scenario_read.specs.Read.{Read}
use Rattle.scenario_read.specs.Records.{Record}
use Rattle.scenario_read.specs.Values.{count_in}

unfoldable pub steps_of : Record → Result ℕ Cause
steps_of fields = if length fields == 2 then count_in fields 1 0 MOST_STEPS else Err FieldCount

-- the steps, where there were none before
abbrev pub with_steps : Read → Option ℕ → ℕ → Result Read Cause
with_steps p None n = Ok (record p { steps = Some n })
with_steps p (Some m) n = Err StepsTwice
