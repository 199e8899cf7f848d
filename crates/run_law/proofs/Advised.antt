-- What an agent's advice is worth: it keeps the speed and respects every segment, and where its mark is
-- Feasible it meets every share against a neighbour.
use Rattle.std.proofs.Common.{◌≡◌, ◌∙◌, inl, inr, ⊎_elim, ◌*◌, ℕ, zero, suc, true, false, Bool, List, map, All, refl, sym, slice_index_or, subst, arith, pos, ◌-ℤ◌, ◌*ℤ◌, ◌≤ℤ◌, ◌<ℤ◌}
use Rattle.std.specs.Prelude.{Contains}
use Rattle.std.specs.List.{filter}
use Rattle.std.proofs.lemmas.Int.{ints}
use Rattle.std.proofs.lemmas.List.Elements.{All-contains}
use Rattle.exact_algebra.proofs.Elements.{back_of, before_filter, before_map, front_of}
use Rattle.fixed_vec.specs.declared.vector.V2.{V2}
use Rattle.fixed_vec.specs.Vector.{square}
use Rattle.fixed_vec.specs.HalfPlane.{Plane, drawn_of, relieved_of, whole_length}
use Rattle.fixed_vec.specs.Meeting.{Meeting}
use Rattle.fixed_vec.specs.Point.{IsIn, Rational, rounded_of, whole}
use Rattle.fixed_vec.proofs.DrawingIn.{rounded_in_plane}
use Rattle.crowd_data.specs.declared.agent.Agent.{Agent}
use Rattle.crowd_data.specs.declared.segment.Segment.{Segment}
use Rattle.crowd_data.specs.declared.frame.Mark.{Mark}
use Rattle.crowd_data.specs.declared.frame.Mark.TheVariants.{Feasible}
use Rattle.crowd_data.specs.Advice.{GivesWay, IsAdvice, IsCrowded, IsMarked, StandsStill, agent_at, hard_planes, neighbours_of, planes_at, share_against, soft_planes}
use Rattle.crowd_data.specs.RingPlanes.{ring_planes}
use Rattle.crowd_data.specs.Scenario.{Parts}
use Rattle.crowd_data.specs.Walls.{in_reach, wall_plane}
use Rattle.hard_plane.proofs.ScenarioRings.{polygon_short}
use Rattle.hard_plane.proofs.ShortPoint.{rounded_within}
use Rattle.separation_law.specs.Respecting.{Respects}

-- ---- the speed

abbrev pub IsWithinSpeed : Agent → V2 → Type 0
IsWithinSpeed agent vel = square vel ≤ℤ (pos agent.speed *ℤ pos agent.speed)

-- the rounding of a point of the speed polygon
polygon_within : (ring : ℕ) (agent : Agent) (p : Rational) → pos 0 <ℤ p.q → All (λ plane. IsIn plane p) (ring_planes ring agent.speed) → IsWithinSpeed agent (rounded_of p)
polygon_within ring agent p point inside = rounded_within p agent.speed point (polygon_short ring agent.speed p point inside)

module _ (scenario : Parts) (crowd : List Agent) (who : ℕ) (vel : V2) (mark : Mark) (relief : ℕ) where
  abbrev me : Agent
  me = agent_at crowd who

  -- the point that is rounded is in all hard half-planes
  in_hard : (p : Rational) → Meeting (planes_at scenario crowd who relief) p → All (λ plane. IsIn plane p) (hard_planes scenario me)
  in_hard p meets = front_of (λ plane. IsIn plane p) (hard_planes scenario me) (map (λ plane. relieved_of plane relief) (soft_planes crowd who)) meets.inside

  still_within : StandsStill scenario crowd who vel mark relief → IsWithinSpeed me vel
  still_within stands = rw (stands.still) (omega (arith, ints))

  moved_within : GivesWay scenario crowd who vel mark relief → IsWithinSpeed me vel
  moved_within moves =
      let p = moves.nearest.0 in
      let meets = moves.nearest.1.meets in
      let inside = front_of (λ plane. IsIn plane p) (ring_planes scenario.ring me.speed) _ (in_hard p meets) in
      subst (IsWithinSpeed me) (sym moves.nearest.2) (polygon_within scenario.ring me p meets.point inside)

  -- ---- segments

  -- it is in the drawn wall plane of each segment in reach, and so its rounding is in the wall plane
  in_walls : GivesWay scenario crowd who vel mark relief → All (λ segment. in_reach me.pos me segment ≡ true → IsIn (wall_plane me.pos me segment) (whole vel)) scenario.segments
  in_walls moves k d l t =
      let p = moves.nearest.0 in
      let meets = moves.nearest.1.meets in
      let segment = slice_index_or scenario.segments k d in
      let walls = filter (in_reach me.pos me) scenario.segments in
      let inside = back_of (λ plane. IsIn plane p) (ring_planes scenario.ring me.speed) (map (λ segment. drawn_of (wall_plane me.pos me segment)) walls) (in_hard p meets) in
      let drawn = before_filter (in_reach me.pos me) (λ segment. IsIn (drawn_of (wall_plane me.pos me segment)) p) scenario.segments (before_map (λ plane. IsIn plane p) (λ segment. drawn_of (wall_plane me.pos me segment)) walls inside) k d l t in
      subst (λ v. IsIn (wall_plane me.pos me segment) (whole v)) (sym moves.nearest.2) (rounded_in_plane (wall_plane me.pos me segment) p meets.point drawn)

-- no advised velocity is longer than the agent's speed
pub advice_within : (scenario : Parts) (crowd : List Agent) (who : ℕ) (vel : V2) (mark : Mark) (relief : ℕ)
    → IsAdvice scenario crowd who vel mark relief → IsWithinSpeed (agent_at crowd who) vel
advice_within scenario crowd who vel mark relief advice =
    ⊎_elim (still_within scenario crowd who vel advice.0 relief) (moved_within scenario crowd who vel advice.0 relief) advice.1

by_reach : (at vel : V2) (agent : Agent) (segment : Segment) (reach : Bool) → in_reach at agent segment ≡ reach → IsWithinSpeed agent vel
    → (in_reach at agent segment ≡ true → IsIn (wall_plane at agent segment) (whole vel)) → Respects at agent segment vel
by_reach at vel agent segment true e slow inside = inl (e, inside e)
by_reach at vel agent segment false e slow inside = inr (inl (e, slow))

-- an advised velocity respects each segment
pub advice_respects : (scenario : Parts) (crowd : List Agent) (who : ℕ) (vel : V2) (mark : Mark) (relief : ℕ)
    → IsAdvice scenario crowd who vel mark relief → All (λ segment. Respects (agent_at crowd who).pos (agent_at crowd who) segment vel) scenario.segments
advice_respects scenario crowd who vel mark relief advice k d l = ⊎_elim
    (λ stands. inr (inr stands.still))
    (λ moves. by_reach (agent_at crowd who).pos vel (agent_at crowd who) (slice_index_or scenario.segments k d) _ refl (advice_within scenario crowd who vel mark relief advice) (in_walls scenario crowd who vel advice.0 relief moves k d l))
    advice.1

-- ---- the mark Feasible

-- a feasible agent isn't crowded
feasible_roomy : (crowd : List Agent) (who : ℕ) (plain mark : Mark) → IsMarked crowd who plain mark → mark ≡ Feasible → ¬ IsCrowded crowd who
feasible_roomy crowd who plain mark marked feasible crowded = let e = marked.when_crowded crowded in cc

pub advice_roomy : (scenario : Parts) (crowd : List Agent) (who : ℕ) (vel : V2) (mark : Mark) (relief : ℕ) → IsAdvice scenario crowd who vel mark relief
    → mark ≡ Feasible → ¬ IsCrowded crowd who
advice_roomy scenario crowd who vel mark relief (plain, way, marked) feasible = feasible_roomy crowd who plain mark marked feasible

-- a half-plane relieved by nothing is itself
relieved_of-zero : (plane : Plane) → relieved_of plane 0 ≡ plane
relieved_of-zero plane =
    let e : plane.c -ℤ pos (0 * whole_length plane.n) ≡ plane.c = omega (arith, ints) in
    λ i. record { n = plane.n; c = e i }

-- the share is met, its drawn form being among the unrelieved soft half-planes
moves_meets : (scenario : Parts) (crowd : List Agent) (who : ℕ) (vel : V2) (mark : Mark) (other : ℕ) (plane : Plane) → GivesWay scenario crowd who vel mark 0
    → Contains (neighbours_of crowd who) other → share_against crowd who other ≡ drawn_of plane → IsIn plane (whole vel)
moves_meets scenario crowd who vel mark other plane moves seen share =
    let (p, nearest, is) = moves.nearest in
    let relieved = back_of (λ plane. IsIn plane p) (hard_planes scenario (agent_at crowd who)) _ nearest.meets.inside in
    let soft = before_map (λ plane. IsIn plane p) (λ plane. relieved_of plane 0) (soft_planes crowd who) relieved in
    let each = before_map (λ plane. IsIn (relieved_of plane 0) p) (share_against crowd who) (neighbours_of crowd who) soft in
    let one = All-contains (λ k. IsIn (relieved_of (share_against crowd who k) 0) p) (neighbours_of crowd who) other each seen in
    let drawn = subst (λ plane. IsIn plane p) (relieved_of-zero (share_against crowd who other) ∙ share) one in
    subst (λ v. IsIn plane (whole v)) (sym is) (rounded_in_plane plane p nearest.meets.point drawn)

-- a feasible agent stands not still, and relieves nothing
pub feasible_meets : (scenario : Parts) (crowd : List Agent) (who : ℕ) (vel : V2) (mark : Mark) (relief other : ℕ) (plane : Plane) → IsAdvice scenario crowd who vel mark relief
    → mark ≡ Feasible → Contains (neighbours_of crowd who) other → share_against crowd who other ≡ drawn_of plane → IsIn plane (whole vel)
feasible_meets scenario crowd who vel mark relief other plane (plain, inl stands, marked) feasible seen share =
    let e = marked.otherwise (feasible_roomy crowd who plain mark marked feasible) in
    let f = stands.stopped in
    absurd (cc (e, f, feasible))
feasible_meets scenario crowd who vel mark zero other plane (plain, inr moves, marked) feasible seen share = moves_meets scenario crowd who vel plain other plane moves seen share
feasible_meets scenario crowd who vel mark (suc relief) other plane (plain, inr moves, marked) feasible seen share =
    let e = marked.otherwise (feasible_roomy crowd who plain mark marked feasible) in
    let f = moves.fallback (λ z. absurd (omega (arith, z))) in
    absurd (cc (e, f, feasible))
