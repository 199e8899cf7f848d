use Rattle.std.proofs.Common.{◌≢◌, take}
use Rattle.std.specs.List.{All}
use Rattle.agent_kdtree.specs.declared.near.Near.{Near}
use Rattle.agent_kdtree.proofs.missed.is_listed.Given as goal

-- no record so far is of the agent
abbrev pub invariant-loop-other : goal.invariant-loop-other
invariant-loop-other l = All (λ (other : Near). other.agent ≢ l.k) (take l.other-index l.near)
