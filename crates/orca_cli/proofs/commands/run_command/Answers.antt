use Rattle.std.proofs.Common.{refl}
use Rattle.orca_cli.proofs.Worked.{worked}
use Rattle.orca_cli.proofs.commands.run_command.Goals as goal

pub returns-in-Ok : goal.returns-in-Ok
returns-in-Ok g c = worked _ _ _ c.args.command refl c.in-Ok.scenario c.every_run_is_safe.ensures c.write_output.result c.requires.nobody c.in-Ok.ensures.had c.write_output.ensures
