use Rattle.orca_cli.proofs.Promises.{kept}
use Rattle.orca_cli.proofs.top_call.orca.Goals as goal

pub returns : goal.returns
returns g c = kept _ _ _ _ _ c.work-status.result _ c.code.ensures c.work-status.ensures c.report.ensures
