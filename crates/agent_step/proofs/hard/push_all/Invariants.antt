use Rattle.std.proofs.Common.{◌≡◌, ◌+◌, ◌++◌, take}
use Rattle.agent_step.proofs.hard.push_all.Given as goal

-- the half-planes so far stand behind those of the list
abbrev pub invariant-loop-plane : goal.invariant-loop-plane
invariant-loop-plane l = (l.planes.items ≡ l.fn.planes.items ++ take l.plane-index l.more) × (l.planes.spare + l.plane-index ≡ l.fn.planes.spare)
