use Rattle.std.proofs.Common.{refl}
use Rattle.agent_kdtree.specs.Seen.{agents_of}
use Rattle.agent_kdtree.proofs.MissedAgents.{none_missed}
use Rattle.agent_kdtree.proofs.missed.+misses_below.Goals as goal

pub returns-then-is_out_of_reach-clause-none : goal.returns-then-is_out_of_reach-clause-none
returns-then-is_out_of_reach-clause-none t c = λ _. none_missed c.args.places.now c.args.who (agents_of c.args.near.now) c.args.order.now (c.if-is_out_of_reach.ensures refl)
