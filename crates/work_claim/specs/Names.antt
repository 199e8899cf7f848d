-- What clauses say of the counter and of its seats.
use Rattle.atomic_table.specs.Seated.{TableId}
use Rattle.work_claim.specs.declared.view.RoundView.{RoundView}
use Rattle.work_claim.specs.declared.claims.Claims.{Claims}
use Rattle.work_claim.specs.declared.root.Root.{Root}
use Rattle.work_claim.specs.declared.claimer.Claimer.{Claimer}

-- which counter it is
abbrev pub claims_id : Claims → TableId
claims_id claims = claims.table.shared.table_id

-- at which counter the root is
abbrev pub root_id : Root → TableId
root_id root = root.seat.seat.table_id

-- what the root knows of the round
abbrev pub root_view : Root → RoundView
root_view root = root.seat.seat.me.0

-- at which counter a claimer is
abbrev pub claimer_id : Claimer → TableId
claimer_id claimer = claimer.seat.seat.table_id

-- what a claimer knows of the round
abbrev pub claimer_view : Claimer → RoundView
claimer_view claimer = claimer.seat.seat.me.0
