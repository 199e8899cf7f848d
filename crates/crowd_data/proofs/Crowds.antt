-- The agents of a scenario as they stand in a frame, and their places.
use Rattle.std.proofs.Common.{◌≡◌, ◌∙◌, ◌<◌, ℕ, zero, suc, List, [], ◌∷◌, length, map, refl, arith}
use Rattle.std.proofs.lemmas.List.{length-map}
use Rattle.crowd_data.specs.declared.agent.Agent.{Agent}
use Rattle.crowd_data.specs.declared.frame.Body.{Body}
use Rattle.crowd_data.specs.Advice.{agent_at, place_of}
use Rattle.crowd_data.specs.Limits.{IsBuild}
use Rattle.crowd_data.specs.Neighbours.{place_at}
use Rattle.crowd_data.specs.Run.{body_at, crowd_of, standing}

-- there are as many as agents
pub length-crowd_of : (agents : List Agent) (bodies : List Body) → length bodies ≡ length agents → length (crowd_of agents bodies) ≡ length agents
length-crowd_of [] bodies e = refl
length-crowd_of (agent ∷ agents) [] e = absurd (omega arith)
length-crowd_of (agent ∷ agents) (body ∷ bodies) e = let f = length-crowd_of agents bodies (omega arith) in omega (arith, f)

-- each has its own build, and the motion of its body
pub agent_at-crowd_of : (agents : List Agent) (bodies : List Body) (who : ℕ) → who < length agents → length bodies ≡ length agents
    → agent_at (crowd_of agents bodies) who ≡ standing (agent_at agents who) (body_at bodies who)
agent_at-crowd_of [] bodies who h e = absurd (omega arith)
agent_at-crowd_of (agent ∷ agents) [] who h e = absurd (omega arith)
agent_at-crowd_of (agent ∷ agents) (body ∷ bodies) zero h e = refl
agent_at-crowd_of (agent ∷ agents) (body ∷ bodies) (suc who) h e = agent_at-crowd_of agents bodies who (omega arith) (omega arith)

pub standing_build : (agent : Agent) (body : Body) → IsBuild agent → IsBuild (standing agent body)
standing_build agent body h = record {
  some_radius = h.some_radius;
  radius = h.radius;
  speed = h.speed;
  range = h.range;
  most = h.most;
  some_horizon = h.some_horizon;
  horizon = h.horizon;
  some_wall_horizon = h.some_wall_horizon;
  wall_horizon = h.wall_horizon;
  weight = h.weight;
}

-- ---- places

pub length-places : (agents : List Agent) (bodies : List Body) → length bodies ≡ length agents → length (map place_of (crowd_of agents bodies)) ≡ length agents
length-places agents bodies e = length-map (crowd_of agents bodies) place_of ∙ length-crowd_of agents bodies e

pub place_at-map : (crowd : List Agent) (who : ℕ) → place_at (map place_of crowd) who ≡ place_of (agent_at crowd who)
place_at-map [] who = refl
place_at-map (agent ∷ crowd) zero = refl
place_at-map (agent ∷ crowd) (suc who) = place_at-map crowd who
