use Rattle.std.proofs.Common.{refl, subst}
use Rattle.live_session.specs.declared.steered.Steering.{Steering}
use Rattle.live_session.specs.Steering.{IsSteering}
use Rattle.live_session.proofs.Standing.{ended}
use Rattle.live_session.proofs.joining.join.Goals as goal

pub returns-in-Ok : goal.returns-in-Ok
returns-in-Ok g c = λ box source history turns number steering.
    let told = subst (λ (s : Steering). IsSteering box source history turns number s) c.in-OnThread.is steering in
    ended box source _ history turns number _ _ c.join-controller.result c.in-Ok.last (record { controller = c.join-controller.result.0; poster = c.join-controller.result.1; reader = _; last = c.in-Ok.last })
    told.0 told.1 told.2 c.join-controller.ensures c.in-Ok.is refl refl refl refl
