-- The code's records of other agents, as the definitions see them.
use Rattle.std.specs.Prelude.{ℕ, List, map}
use Rattle.crowd_data.specs.Neighbours.{Seen}
use Rattle.agent_kdtree.specs.declared.near.Near.{Near}

abbrev pub seen_of : Near → Seen
seen_of near = record { agent = near.agent; dist = near.dist }

abbrev pub seen_all : List Near → List Seen
seen_all list = map seen_of list

abbrev pub agents_of : List Near → List ℕ
agents_of list = map (λ (near : Near). near.agent) list
