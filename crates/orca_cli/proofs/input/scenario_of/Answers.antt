use Rattle.std.proofs.Common.{◌≤◌, length}
use Rattle.std.proofs.KnownBytes.{Consumes-whole}
use Rattle.orca_cli.specs.Output.{IsScenarioOf}
use Rattle.orca_cli.specs.Status.{input_limit}
use Rattle.orca_cli.proofs.input.scenario_of.Goals as goal

pub returns-in-Ok-read_scenario-clause-read : goal.returns-in-Ok-read_scenario-clause-read
returns-in-Ok-read_scenario-clause-read g c =
    let read = c.in-Ok.ensures in
    let stands = rw c.items.ensures at c.in-Ok-read_scenario.ensures.accepted in (
      Consumes-whole _ _ c.in-Ok.bytes.items (λ whole. (length whole ≤ input_limit) × IsScenarioOf whole c.in-Ok-read_scenario.scenario) read.all read.end (read.short, stands),
      read.end,
      (c.in-Ok.bytes.items, read.short, read.all),
    )
