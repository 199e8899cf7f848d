-- What an agent does among its hard half-planes and its shares is what the plain definitions say.
use Rattle.std.proofs.Common.{◌≡◌, ◌∙◌, ⊎_elim, inl, inr, ◌⊎◌, ◌≤◌, ◌+◌, ◌++◌, ℕ, Bool, true, false, cond, List, [], ◌∷◌, refl, sym, ap, subst, map, length, take, drop, arith}
use Rattle.std.specs.List.{filter}
use Rattle.std.proofs.lemmas.List.{drop_at, length-append, length-map, take_at}
use Rattle.std.proofs.lemmas.Simd.{map-map}
use Rattle.fixed_vec.specs.declared.vector.V2.{V2}
use Rattle.fixed_vec.specs.HalfPlane.{Plane, drawn_of, relieved_of}
use Rattle.fixed_vec.specs.Meeting.{IsEmpty, Nearest, relieved_after}
use Rattle.crowd_data.specs.declared.agent.Agent.{Agent}
use Rattle.crowd_data.specs.declared.segment.Segment.{Segment}
use Rattle.crowd_data.specs.declared.frame.Mark.{Mark}
use Rattle.crowd_data.specs.declared.frame.Mark.TheVariants.{Crowded}
use Rattle.crowd_data.specs.Advice.{IsCrowded, IsMarked, GivesWay, StandsStill, agent_at, hard_planes, neighbours_of, planes_at, share_against, soft_planes, wall_planes}
use Rattle.crowd_data.specs.RingPlanes.{ring_planes}
use Rattle.crowd_data.specs.Limits.{fine_ring}
use Rattle.crowd_data.specs.Scenario.{Parts}
use Rattle.crowd_data.specs.Walls.{in_reach, wall_plane}
use Rattle.planar_program.specs.declared.relief.TheConstants.{GREATEST_RELIEF}
use Rattle.hard_plane.proofs.ScenarioRings.{length-ring_planes_le}
use Rattle.planar_program.specs.Met.{IsMet}
use Rattle.agent_step.specs.Among.{AdvisedAmong}
use Rattle.agent_step.proofs.AnyOrder.{with_walls}
use Rattle.agent_kdtree.specs.declared.near.Near.{Near}

pub relieved_after-joined : (first rest : List Plane) (hard d : ℕ) → length first ≡ hard → relieved_after hard d (first ++ rest) ≡ first ++ map (λ plane. relieved_of plane d) rest
relieved_after-joined first rest hard d e = rw (take_at first rest hard e, drop_at first rest hard e) refl

-- a filtered list is no longer
length-filter_le : {X : Type 0} (p : X → Bool) (xs : List X) → length (filter p xs) ≤ length xs
length-filter_le p [] = omega arith
length-filter_le {X} p (x ∷ xs) = by (p x) (length-filter_le p xs)
  where
    by : (t : Bool) → length (filter p xs) ≤ length xs → length (cond t (x ∷ filter p xs) (filter p xs)) ≤ length (x ∷ xs)
    by true h = omega (arith, h)
    by false h = omega (arith, h)

-- how many wall planes there are at most
pub length-wall_planes : (segments : List Segment) (agent : Agent) → length (wall_planes segments agent) ≤ length segments
length-wall_planes segments agent =
    omega (arith, length-map (filter (in_reach agent.pos agent) segments) (λ segment. drawn_of (wall_plane agent.pos agent segment)), length-filter_le (in_reach agent.pos agent) segments)

-- how many hard half-planes there are at most
pub length-hard_planes : (scenario : Parts) (agent : Agent) → length (hard_planes scenario agent) ≤ fine_ring + length scenario.segments
length-hard_planes scenario agent =
    omega (
      arith,
      length-append (ring_planes scenario.ring agent.speed) (wall_planes scenario.segments agent),
      length-ring_planes_le scenario.ring agent.speed,
      length-wall_planes scenario.segments agent,
    )

-- the hard half-planes, the walls in an order of their own
pub hard_from : (scenario : Parts) (segments : List Segment) (crowd : List Agent) (who : ℕ) (agent : Agent) (polygon planes : List Plane)
    → polygon ≡ ring_planes scenario.ring (agent_at crowd who).speed → agent ≡ agent_at crowd who → planes ≡ polygon ++ wall_planes segments agent → planes ≡ hard_planes (with_walls scenario segments) (agent_at crowd who)
hard_from scenario segments crowd who agent polygon planes ring there are =
    are ∙ (λ i. ring i ++ wall_planes segments (there i))

-- the shares against the neighbours that the code has
pub shares_are : (crowd : List Agent) (who : ℕ) (near : List Near) → map (λ (near : Near). near.agent) near ≡ neighbours_of crowd who
    → map (λ (near : Near). share_against crowd who near.agent) near ≡ soft_planes crowd who
shares_are crowd who near e = sym (map-map (share_against crowd who) (λ (near : Near). near.agent) near) ∙ ap (map (share_against crowd who)) e

-- they stand behind the walls
pub shares_behind : (walls first planes soft : List Plane) → first ≡ walls → planes ≡ walls ++ soft → drop (length first) planes ≡ soft
shares_behind walls first planes soft g h = ap (drop (length first)) h ∙ drop_at walls soft (length first) (sym (ap length g))

-- with no half-plane before them all are relieved
pub relieved_shares : (planes soft : List Plane) (hard : ℕ) → hard ≡ 0 → drop hard planes ≡ soft → relieved_after hard GREATEST_RELIEF planes ≡ map (λ plane. relieved_of plane GREATEST_RELIEF) soft
relieved_shares planes soft hard e f = rw (e, sym f) (rw e refl)

-- the half-planes that the code has are those of the agent, the hard ones first
pub record IsListed (scenario : Parts) (crowd : List Agent) (who hard : ℕ) (planes : List Plane) : Type 0 where
  pub are : planes ≡ hard_planes scenario (agent_at crowd who) ++ soft_planes crowd who
  pub count : length (hard_planes scenario (agent_at crowd who)) ≡ hard

pub listed : (scenario : Parts) (crowd : List Agent) (who : ℕ) (planes first hard : List Plane)
    → first ≡ hard_planes scenario (agent_at crowd who) → hard ≡ first → planes ≡ first ++ soft_planes crowd who → IsListed scenario crowd who (length hard) planes
listed scenario crowd who planes first hard firm same all = record {
  are = all ∙ ap (λ (first : List Plane). first ++ soft_planes crowd who) firm;
  count = ap length (sym (same ∙ firm));
}

module _ (scenario : Parts) (crowd : List Agent) (who hard : ℕ) (planes : List Plane) (listed : IsListed scenario crowd who hard planes) where
  pub hard_are : take hard planes ≡ hard_planes scenario (agent_at crowd who)
  hard_are = ap (take hard) listed.are ∙ take_at (hard_planes scenario (agent_at crowd who)) (soft_planes crowd who) hard listed.count

  pub soft_are : drop hard planes ≡ soft_planes crowd who
  soft_are = ap (drop hard) listed.are ∙ drop_at (hard_planes scenario (agent_at crowd who)) (soft_planes crowd who) hard listed.count

  pub relieved_are : (d : ℕ) → relieved_after hard d planes ≡ planes_at scenario crowd who d
  relieved_are d = ap (relieved_after hard d) listed.are ∙ relieved_after-joined (hard_planes scenario (agent_at crowd who)) (soft_planes crowd who) hard d listed.count

  pub moves_among : (vel : V2) (mark : Mark) (relief : ℕ) → AdvisedAmong hard planes (agent_at crowd who).pref vel mark relief → StandsStill scenario crowd who vel mark relief ⊎ GivesWay scenario crowd who vel mark relief
  moves_among vel mark relief advised = ⊎_elim
      (λ stands. inl (record { no_room = subst IsEmpty hard_are stands.no_room; still = stands.still; stopped = stands.stopped; unrelieved = stands.unrelieved }))
      (λ moves. inr
      (record {
        room = subst IsMet hard_are moves.room;
        least = λ d h. subst IsEmpty (relieved_are d) (moves.least d h);
        nearest = let (p, nearest, is) = moves.nearest in (p, subst (λ planes. Nearest planes (agent_at crowd who).pref p) (relieved_are relief) nearest, is);
        feasible = moves.feasible;
        fallback = moves.fallback;
      }))
      advised

-- ---- the mark

pub crowded_mark : (crowd : List Agent) (who : ℕ) (plain : Mark) → IsCrowded crowd who → IsMarked crowd who plain Crowded
crowded_mark crowd who plain crowded = record { when_crowded = λ h. refl; otherwise = λ not. absurd (not crowded) }

pub plain_mark : (crowd : List Agent) (who : ℕ) (plain : Mark) → ¬ IsCrowded crowd who → IsMarked crowd who plain plain
plain_mark crowd who plain roomy = record { when_crowded = λ h. absurd (roomy h); otherwise = λ not. refl }
