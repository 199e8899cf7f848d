use Rattle.std.proofs.Common.{◌≡◌, ◌≤◌, ◌+◌, take, length}
use Rattle.crowd_data.proofs.copies.copy_bodies.Given as goal

-- those so far are copied, and there is room for the others
abbrev pub invariant-loop-body : goal.invariant-loop-body
invariant-loop-body l = (l.copy.items ≡ take l.body-index l.bodies) × (length l.bodies ≤ l.body-index + l.copy.spare)
