-- What an agent does is the same in whichever order its walls stand.
use Rattle.std.proofs.Common.{◌⊎◌, ⊎_elim, inl, inr, ℕ, List, map, All}
use Rattle.std.specs.List.Sorted.{IsPermutation}
use Rattle.std.proofs.lemmas.List.Elements.{All-append}
use Rattle.std.proofs.lemmas.List.Sorted.{IsPermutation-sym}
use Rattle.fixed_vec.specs.declared.vector.V2.{V2}
use Rattle.fixed_vec.specs.HalfPlane.{Plane, drawn_of, relieved_of}
use Rattle.fixed_vec.specs.Meeting.{Meeting}
use Rattle.fixed_vec.specs.Point.{IsIn, Rational}
use Rattle.crowd_data.specs.declared.agent.Agent.{Agent}
use Rattle.crowd_data.specs.declared.frame.Mark.{Mark}
use Rattle.crowd_data.specs.declared.segment.Segment.{Segment}
use Rattle.crowd_data.specs.Advice.{GivesWay, StandsStill, agent_at, hard_planes, planes_at, soft_planes, wall_planes}
use Rattle.crowd_data.specs.RingPlanes.{ring_planes}
use Rattle.crowd_data.specs.Scenario.{Parts}
use Rattle.crowd_data.specs.Walls.{in_reach, wall_plane}
use Rattle.exact_algebra.proofs.Elements.{back_of, front_of}
use Rattle.agent_step.proofs.Blocks.{all_in_any_order}

-- a scenario with its segments in an order of their own
abbrev pub with_walls : Parts → List Segment → Parts
with_walls scenario segments = record scenario { segments = segments }

module _ (scenario : Parts) (a b : List Segment) (order : IsPermutation a b) where
  all_hard : (P : Plane → Type 0) (agent : Agent) → All P (hard_planes (with_walls scenario a) agent) → All P (hard_planes (with_walls scenario b) agent)
  all_hard P agent all =
      let f = λ (segment : Segment). drawn_of (wall_plane agent.pos agent segment) in
      let q = in_reach agent.pos agent in
      let polygon = ring_planes scenario.ring agent.speed in
      All-append P polygon (wall_planes b agent) (front_of P polygon (wall_planes a agent) all) (all_in_any_order f q P a b order (back_of P polygon (wall_planes a agent) all))

  hard_met : (agent : Agent) (p : Rational) → Meeting (hard_planes (with_walls scenario a) agent) p → Meeting (hard_planes (with_walls scenario b) agent) p
  hard_met agent p m = record { point = m.point; inside = all_hard (λ plane. IsIn plane p) agent m.inside }

  all_met : (crowd : List Agent) (who d : ℕ) (p : Rational) → Meeting (planes_at (with_walls scenario a) crowd who d) p → Meeting (planes_at (with_walls scenario b) crowd who d) p
  all_met crowd who d p m =
      let P : Plane → Type 0 = λ plane. IsIn plane p in
      let agent = agent_at crowd who in
      let soft = map (λ plane. relieved_of plane d) (soft_planes crowd who) in
      record {
        point = m.point;
        inside = All-append P (hard_planes (with_walls scenario b) agent) soft (all_hard P agent (front_of P (hard_planes (with_walls scenario a) agent) soft m.inside)) (back_of P (hard_planes (with_walls scenario a) agent) soft m.inside);
      }

pub moves_in_any_order : (scenario : Parts) (segments : List Segment) (crowd : List Agent) (who : ℕ) (vel : V2) (mark : Mark) (relief : ℕ) → IsPermutation scenario.segments segments
    → StandsStill (with_walls scenario segments) crowd who vel mark relief ⊎ GivesWay (with_walls scenario segments) crowd who vel mark relief
    → StandsStill scenario crowd who vel mark relief ⊎ GivesWay scenario crowd who vel mark relief
moves_in_any_order scenario b crowd who vel mark relief order moves =
    let a = scenario.segments in
    let back = IsPermutation-sym _ _ order in
    ⊎_elim
    (λ stands. inl
    (record {
      no_room = λ v m. stands.no_room v (hard_met scenario a b order (agent_at crowd who) v m);
      still = stands.still;
      stopped = stands.stopped;
      unrelieved = stands.unrelieved;
    }))
    (λ gives. inr
    (record {
      room = (gives.room.0, hard_met scenario b a back (agent_at crowd who) gives.room.0 gives.room.1);
      least = λ d h v m. gives.least d h v (all_met scenario a b order crowd who d v m);
      nearest = (
        gives.nearest.0,
        record {
          meets = all_met scenario b a back crowd who relief gives.nearest.0 gives.nearest.1.meets;
          no_farther = λ v m. gives.nearest.1.no_farther v (all_met scenario a b order crowd who relief v m);
        },
        gives.nearest.2,
      );
      feasible = gives.feasible;
      fallback = gives.fallback;
    }))
    moves
