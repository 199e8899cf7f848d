-- In the first frame each agent stands as the scenario has it.
use Rattle.std.proofs.Common.{◌≡◌, ◌+◌, ℕ, List, [], ◌∷◌, map, refl, ap, arith}
use Rattle.std.specs.List.{All}
use Rattle.std.proofs.lemmas.List.Elements.{All-map}
use Rattle.crowd_data.specs.declared.agent.Agent.{Agent}
use Rattle.crowd_data.specs.Advice.{place_of}
use Rattle.crowd_data.specs.Limits.{IsAgent}
use Rattle.crowd_data.specs.Run.{crowd_of, starting_bodies}
use Rattle.agent_kdtree.specs.Placed.{IsPlaced}

pub crowd_of-start : (number : ℕ) (agents : List Agent) → crowd_of agents (starting_bodies number agents) ≡ agents
crowd_of-start number [] = refl
crowd_of-start number (agent ∷ rest) = ap (λ agents. agent ∷ agents) (crowd_of-start (number + 1) rest)

-- agents within the limits stand where they can be placed
pub all_places : (agents : List Agent) → All IsAgent agents → All IsPlaced (map place_of agents)
all_places agents valid = All-map IsPlaced place_of agents
    (λ k d l. let h = valid k d l in record { pos = (omega (arith, h.pos), omega (arith, h.pos)); radius = h.build.radius; speed = h.build.speed })
