use Rattle.std.proofs.Common.{refl}
use Rattle.command_words.specs.declared.commands.Command.TheVariants.{Live}
use Rattle.orca_cli.proofs.Worked.{worked_live}
use Rattle.orca_cli.proofs.top_call.run_live.Goals as goal

pub returns-in-Ok : goal.returns-in-Ok
returns-in-Ok g c = worked_live _ _ _ (Live c.args.workers) refl c.in-Ok.scenario c.every_run_is_safe.ensures c.write_live.result refl c.in-Ok.ensures.had c.write_live.ensures
