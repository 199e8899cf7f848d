-- The agents of a frame that is present stand where they can be placed.
use Rattle.std.proofs.Common.{◌≡◌, ◌∙◌, ◌≤◌, ◌+◌, ◌*◌, ◌^◌, ℕ, List, [], ◌∷◌, length, map, sym, ap, subst, arith}
use Rattle.std.specs.List.{All}
use Rattle.std.proofs.lemmas.List.Elements.{All-cons, All-head, All-map, All-nil, All-tail}
use Rattle.fixed_vec.specs.declared.vector.V2.{V2}
use Rattle.fixed_vec.specs.Vector.{IsBelow}
use Rattle.crowd_data.specs.declared.agent.Agent.{Agent}
use Rattle.crowd_data.specs.declared.frame.Body.{Body}
use Rattle.crowd_data.specs.declared.pair.Place.{Place}
use Rattle.crowd_data.specs.Advice.{place_of}
use Rattle.crowd_data.specs.Limits.{IsAgent, IsWithin}
use Rattle.crowd_data.specs.Present.{IsBody, IsPresent}
use Rattle.crowd_data.specs.Run.{Snapshot, crowd_of, standing}
use Rattle.crowd_data.specs.Scenario.{IsValid, Parts}
use Rattle.crowd_data.proofs.Crowds.{length-places}
use Rattle.crowd_data.specs.declared.limits.TheConstants.{GREATEST_COORDINATE, GREATEST_SPEED, MOST_STEPS}
use Rattle.agent_kdtree.specs.Placed.{IsPlaced}

-- ---- where the agents stand

below : (at : V2) (number : ℕ) → number ≤ MOST_STEPS → IsWithin at (GREATEST_COORDINATE + GREATEST_SPEED * number) → IsBelow at (2 ^ 31)
below at number few near = (omega (arith, near.0), omega (arith, near.1))

-- where an agent stands in a frame, it can be placed
placed_agent : (agent : Agent) (body : Body) (number : ℕ) → number ≤ MOST_STEPS → IsAgent agent → IsBody number body → IsPlaced (place_of (standing agent body))
placed_agent agent body number few sound limits = record { pos = below body.pos number few limits.pos; radius = sound.build.radius; speed = sound.build.speed }

placed_all : (agents : List Agent) (bodies : List Body) (number : ℕ) → number ≤ MOST_STEPS → All IsAgent agents → All (IsBody number) bodies
    → All (λ (agent : Agent). IsPlaced (place_of agent)) (crowd_of agents bodies)
placed_all [] bodies number few sound all = All-nil (λ (agent : Agent). IsPlaced (place_of agent))
placed_all (agent ∷ agents) [] number few sound all = All-nil (λ (agent : Agent). IsPlaced (place_of agent))
placed_all (agent ∷ agents) (body ∷ bodies) number few sound all =
    All-cons (λ (agent : Agent). IsPlaced (place_of agent)) (standing agent body) (crowd_of agents bodies)
    (placed_agent agent body number few (All-head IsAgent agent agents sound) (All-head (IsBody number) body bodies all))
    (placed_all agents bodies number few (All-tail IsAgent agent agents sound) (All-tail (IsBody number) body bodies all))

pub all_placed : (scenario : Parts) (frame : Snapshot) (places : List Place) → IsValid scenario → IsPresent scenario frame → places ≡ map place_of (crowd_of scenario.agents frame.bodies)
    → All IsPlaced places
all_placed scenario frame places valid present are =
    subst (λ (list : List Place). All IsPlaced list) (sym are)
    (All-map IsPlaced place_of (crowd_of scenario.agents frame.bodies)
    (placed_all scenario.agents frame.bodies frame.number (omega (arith, present.number, valid.steps)) valid.agents present.bodies))

pub length-placed : (scenario : Parts) (frame : Snapshot) (places : List Place) → length frame.bodies ≡ length scenario.agents → places ≡ map place_of (crowd_of scenario.agents frame.bodies)
    → length places ≡ length scenario.agents
length-placed scenario frame places full are = ap length are ∙ length-places scenario.agents frame.bodies full
