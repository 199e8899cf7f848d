use Rattle.std.proofs.Common.{take}
use Rattle.std.specs.List.{All}
use Rattle.agent_kdtree.specs.Missed.{IsMissed}
use Rattle.agent_kdtree.specs.Seen.{agents_of}
use Rattle.agent_kdtree.proofs.missed.misses_among.Given as goal

-- no number so far is missed
abbrev pub invariant-loop-k : goal.invariant-loop-k
invariant-loop-k l = All (λ k. ¬ IsMissed l.places l.who (agents_of l.near) k) (take l.k-index l.order)
