use Rattle.std.proofs.lemmas.Result.{err_from_is_err_and}
use Rattle.orca_cli.proofs.Written.{run_written, start_broken_off}
use Rattle.orca_cli.proofs.run.write_run.Goals as goal

pub returns-in_err-write_start-clause-text : goal.returns-in_err-write_start-clause-text
returns-in_err-write_start-clause-text g c =
    let p = err_from_is_err_and c.from_residual.result c.from_residual.ensures.1 in
    rw p.1 (start_broken_off c.args.stepper.now.scenario c.scenario-scenario.ensures.valid c.args.stepper.now.frame c.requires.start _ _ c.in_err-write_start.ensures.text)

pub returns-clause-text : goal.returns-clause-text
returns-clause-text g c =
    run_written c.args.stepper.now.scenario c.scenario-scenario.ensures.valid c.args.stepper.now.frame c.requires.start _ _ c.in_ok-write_start.ensures.text _ c.write_steps.result c.write_steps.ensures.text
