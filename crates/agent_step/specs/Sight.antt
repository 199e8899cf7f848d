-- Agents that stand in a frame, and those that are near enough to be seen.
use Rattle.std.specs.Prelude.{◌≡◌, ◌^◌, ◌<◌, ℕ, List, length, map}
use Rattle.std.specs.List.{All}
use Rattle.crowd_data.specs.declared.agent.Agent.{Agent}
use Rattle.crowd_data.specs.declared.frame.Body.{Body}
use Rattle.crowd_data.specs.Advice.{agent_at, place_of}
use Rattle.crowd_data.specs.Limits.{IsAgent, IsVelocity}
use Rattle.crowd_data.specs.Neighbours.{Seen, neighbours, squared_gap}

-- agents within the limits of a scenario, each with a body whose velocity is within them
pub record ArePresent (agents : List Agent) (bodies : List Body) : Type 0 where
  pub count : length bodies ≡ length agents
  pub sound : All IsAgent agents
  pub slow : All (λ (body : Body). IsVelocity body.vel) bodies

-- a number is that of an agent which is nearer than every range can be
pub record IsSeen (crowd : List Agent) (who other : ℕ) : Type 0 where
  pub there : other < length crowd
  pub near : squared_gap (agent_at crowd other).pos (agent_at crowd who).pos < 2 ^ 32

-- the neighbours of an agent as it sees them
abbrev pub seen_by : List Agent → ℕ → List Seen
seen_by crowd who = neighbours (map place_of crowd) who (agent_at crowd who).range (agent_at crowd who).most
