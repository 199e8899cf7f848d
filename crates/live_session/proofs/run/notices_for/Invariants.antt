use Rattle.std.proofs.Common.{◌≡◌, ◌≤◌, length}
use Rattle.std.specs.Vec.{vec_capacity}
use Rattle.live_session.proofs.run.notices_for.Given as goal

abbrev pub invariant-loop : goal.invariant-loop
invariant-loop g l = (length l.notices.items ≡ l.counter) × (l.controllers ≤ vec_capacity l.notices)
