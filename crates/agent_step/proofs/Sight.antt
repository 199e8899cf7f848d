-- An agent's neighbours are near enough to be seen.
use Rattle.std.proofs.Common.{◌≡◌, ◌≤◌, ℕ, List, map, All, refl, arith, mul-le-mul}
use Rattle.std.proofs.lemmas.List.{length-map}
use Rattle.std.proofs.lemmas.List.Elements.{All-weaker}
use Rattle.crowd_data.specs.declared.agent.Agent.{Agent}
use Rattle.crowd_data.specs.Advice.{agent_at, neighbours_of, place_of}
use Rattle.crowd_data.specs.Neighbours.{place_at, squared_gap}
use Rattle.crowd_data.proofs.Crowds.{place_at-map}
use Rattle.crowd_data.proofs.Sight.{InRange, neighbours_in_range}
use Rattle.crowd_data.specs.declared.limits.TheConstants.{GREATEST_RANGE}
use Rattle.agent_step.specs.Sight.{IsSeen}

pub neighbours_seen : (crowd : List Agent) (who : ℕ) → (agent_at crowd who).range ≤ GREATEST_RANGE → All (IsSeen crowd who) (neighbours_of crowd who)
neighbours_seen crowd who limit =
    All-weaker (InRange (map place_of crowd) who (agent_at crowd who).range) (IsSeen crowd who) seen (neighbours_of crowd who)
    (neighbours_in_range (map place_of crowd) who (agent_at crowd who).range (agent_at crowd who).most)
  where
    seen : (k : ℕ) → InRange (map place_of crowd) who (agent_at crowd who).range k → IsSeen crowd who k
    seen k h = record {
      there = omega (arith, h.0, length-map crowd place_of);
      near =
          let gap : squared_gap (agent_at crowd k).pos (agent_at crowd who).pos ≡ squared_gap (place_at (map place_of crowd) k).pos (place_at (map place_of crowd) who).pos =
          rw (place_at-map crowd k, place_at-map crowd who) refl in
          omega (arith, gap, h.1, mul-le-mul limit limit);
    }
