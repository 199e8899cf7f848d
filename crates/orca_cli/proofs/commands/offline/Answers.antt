use Rattle.orca_cli.proofs.Promises.{kept}
use Rattle.orca_cli.proofs.commands.offline.Goals as goal

pub returns-clause-promise : goal.returns-clause-promise
returns-clause-promise g c = kept _ _ _ _ _ c.work-status.result _ c.code.ensures c.work-status.ensures c.report.ensures
