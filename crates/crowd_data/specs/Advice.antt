-- What an agent does: the velocity nearest to its preferred one that walls, speed and neighbours admit.
-- A crowd is the list of the agents as they stand in a frame, in order of number.
use Rattle.std.specs.Prelude.{◌≡◌, ◌≢◌, ◌⊎◌, ℕ, ◌<◌, min, nat_lt, if◌then◌else◌, List, ◌++◌, map, slice_index_or}
use Rattle.std.specs.List.{filter}
use Rattle.fixed_vec.specs.declared.vector.V2.{V2}
use Rattle.fixed_vec.specs.Vector.{zero_vector}
use Rattle.fixed_vec.specs.HalfPlane.{Plane, drawn_of, relieved_of}
use Rattle.fixed_vec.specs.Point.{Rational, rounded_of}
use Rattle.fixed_vec.specs.Meeting.{IsEmpty, Meeting, Nearest}
use Rattle.crowd_data.specs.declared.agent.Agent.{Agent}
use Rattle.crowd_data.specs.declared.segment.Segment.{Segment}
use Rattle.crowd_data.specs.declared.pair.Disc.{Disc}
use Rattle.crowd_data.specs.declared.pair.Place.{Place}
use Rattle.crowd_data.specs.declared.frame.Mark.{Mark}
use Rattle.crowd_data.specs.declared.frame.Mark.TheVariants.{Feasible, Fallback, Stopped, Crowded}
use Rattle.crowd_data.specs.RingPlanes.{ring_planes}
use Rattle.crowd_data.specs.Scenario.{Parts}
use Rattle.crowd_data.specs.Walls.{in_reach, wall_plane}
use Rattle.crowd_data.specs.Pairs.{higher_share, lower_share}
use Rattle.crowd_data.specs.Neighbours.{MissesNear, Seen, neighbours}

-- who stands for an agent that isn't there
abbrev pub nobody : Agent
nobody = record { pos = zero_vector; vel = zero_vector; pref = zero_vector; radius = 0; speed = 0; range = 0; most = 0; horizon = 0; wall_horizon = 0; weight = 0 }

-- the agent with this number
abbrev pub agent_at : List Agent → ℕ → Agent
agent_at crowd who = slice_index_or crowd who nobody

abbrev pub place_of : Agent → Place
place_of agent = record { pos = agent.pos; radius = agent.radius; speed = agent.speed }

abbrev pub disc_of : Agent → Disc
disc_of agent = record { pos = agent.pos; vel = agent.vel; radius = agent.radius }

-- the numbers of an agent's neighbours
abbrev pub neighbours_of : List Agent → ℕ → List ℕ
neighbours_of crowd who =
    map (λ (seen : Seen). seen.agent) (neighbours (map place_of crowd) who (agent_at crowd who).range (agent_at crowd who).most)

-- some near agent isn't among its neighbours
abbrev pub IsCrowded : List Agent → ℕ → Type 0
IsCrowded crowd who = MissesNear (map place_of crowd) who (neighbours_of crowd who)

-- the drawn wall planes of the segments in an agent's reach
abbrev pub wall_planes : List Segment → Agent → List Plane
wall_planes segments agent = map (λ segment. drawn_of (wall_plane agent.pos agent segment)) (filter (in_reach agent.pos agent) segments)

-- what an agent never gives up: its speed polygon, and its drawn wall planes
abbrev pub hard_planes : Parts → Agent → List Plane
hard_planes scenario agent = ring_planes scenario.ring agent.speed ++ wall_planes scenario.segments agent

-- the drawn share that an agent takes against another, by the weights of both; the smaller horizon counts for both
abbrev pub share_against : List Agent → ℕ → ℕ → Plane
share_against crowd who other =
    let a = agent_at crowd who in
    let b = agent_at crowd other in
    drawn_of
    (if nat_lt who other
    then lower_share (disc_of a) (disc_of b) (min a.horizon b.horizon) a.weight b.weight
    else higher_share (disc_of b) (disc_of a) (min b.horizon a.horizon) b.weight a.weight)

-- what an agent gives up as little as it can: its drawn share against each neighbour
abbrev pub soft_planes : List Agent → ℕ → List Plane
soft_planes crowd who = map (share_against crowd who) (neighbours_of crowd who)

-- the half-planes of an agent whose soft ones are relieved by d
abbrev pub planes_at : Parts → List Agent → ℕ → ℕ → List Plane
planes_at scenario crowd who d =
    hard_planes scenario (agent_at crowd who) ++ map (λ plane. relieved_of plane d) (soft_planes crowd who)

-- where the hard half-planes have no common point, the agent stands still
pub record StandsStill (scenario : Parts) (crowd : List Agent) (who : ℕ) (vel : V2) (mark : Mark) (relief : ℕ) : Type 0 where
  pub no_room : IsEmpty (hard_planes scenario (agent_at crowd who))
  pub still : vel ≡ zero_vector
  pub stopped : mark ≡ Stopped
  pub unrelieved : relief ≡ 0

-- elsewhere it takes the least relief with which it can move, and rounds the admitted point that is
-- nearest to its preferred velocity
pub record GivesWay (scenario : Parts) (crowd : List Agent) (who : ℕ) (vel : V2) (mark : Mark) (relief : ℕ) : Type 0 where
  pub room : (p : Rational) × Meeting (hard_planes scenario (agent_at crowd who)) p
  pub least : (d : ℕ) → d < relief → IsEmpty (planes_at scenario crowd who d)
  pub nearest : (p : Rational) × Nearest (planes_at scenario crowd who relief) (agent_at crowd who).pref p × (vel ≡ rounded_of p)
  pub feasible : relief ≡ 0 → mark ≡ Feasible
  pub fallback : relief ≢ 0 → mark ≡ Fallback

-- the mark of a crowded agent is Crowded, whatever it would be else
pub record IsMarked (crowd : List Agent) (who : ℕ) (plain mark : Mark) : Type 0 where
  pub when_crowded : IsCrowded crowd who → mark ≡ Crowded
  pub otherwise : ¬ IsCrowded crowd who → mark ≡ plain

-- the advice of an agent: a velocity, a mark and a relief
abbrev pub IsAdvice : Parts → List Agent → ℕ → V2 → Mark → ℕ → Type 0
IsAdvice scenario crowd who vel mark relief =
    (plain : Mark) × (StandsStill scenario crowd who vel plain relief ⊎ GivesWay scenario crowd who vel plain relief) × IsMarked crowd who plain mark
