-- Pairs keep apart in a step: who is whose neighbour, and which law holds of the two.
use Rattle.std.proofs.Common.{◌≡◌, ◌≢◌, ⊎_elim, ◌∙◌, ◌<◌, ◌+◌, ◌*◌, ◌^◌, ℕ, List, map, length, sym, ap, subst, arith, ℤ, pos, ◌*ℤ◌, ◌≤ℤ◌, ◌<ℤ◌}
use Rattle.std.specs.Prelude.{Contains}
use Rattle.std.proofs.lemmas.Bool.{cases_lt}
use Rattle.exact_algebra.proofs.Order.{square_nonneg, sum_nonneg}
use Rattle.fixed_vec.specs.declared.vector.V2.{V2}
use Rattle.fixed_vec.specs.Vector.{minus, plus, square, times}
use Rattle.fixed_vec.specs.HalfPlane.{Plane, drawn_of}
use Rattle.fixed_vec.specs.Point.{IsIn, whole}
use Rattle.fixed_vec.proofs.Squares.{square-minus}
use Rattle.crowd_data.specs.declared.agent.Agent.{Agent}
use Rattle.crowd_data.specs.declared.frame.Mark.TheVariants.{Feasible}
use Rattle.crowd_data.specs.declared.pair.Disc.{Disc}
use Rattle.crowd_data.specs.declared.pair.Place.{Place}
use Rattle.crowd_data.specs.declared.post.Post.{Post}
use Rattle.crowd_data.specs.Advice.{agent_at, neighbours_of, nobody, place_of, share_against}
use Rattle.crowd_data.specs.Limits.{IsAgent}
use Rattle.crowd_data.specs.Neighbours.{IsNear, place_at, squared_gap}
use Rattle.crowd_data.specs.Pairs.{IsPair, higher_share, lower_share}
use Rattle.crowd_data.specs.Run.{IsMoved, IsNext, Snapshot, after_posts, body_at, crowd_of, no_body}
use Rattle.crowd_data.specs.Safety.{ApartThroughout, IsApart}
use Rattle.crowd_data.specs.SafeSteps.{AreApart, AreNear, BothFeasible, KeepsApart, PairsKeepApart, SeeEachOther, StayApart, at_in, radii, vel_in}
use Rattle.crowd_data.specs.Scenario.{IsValid, Parts}
use Rattle.separation_law.proofs.FarPairs.{far_apart}
use Rattle.separation_law.proofs.Pairs.{end_apart, horizon_apart, step_apart}
use Rattle.run_law.proofs.Advised.{advice_roomy, advice_within, feasible_meets}
use Rattle.crowd_data.proofs.Posts.{pos-after_posts}
use Rattle.crowd_data.proofs.Sight.{neighbour_in_range, sees_near}
use Rattle.run_law.proofs.Sizes.{near_square, overlap_near, times_one}
use Rattle.run_law.proofs.Sound.{IsSound}
use Rattle.run_law.proofs.Standing.{agent_is, crowd_after, disc_in, higher_is, joint_horizon, lower_is, neighbours_are, place_in, place_is, places_count, still_place}
use Rattle.run_law.proofs.Mirrored.{mirrored, mirrored_near}

module _ (scenario : Parts) (frame : Snapshot) (posts : List Post) (next : Snapshot)
    (valid : IsValid scenario) (sound : IsSound scenario frame) (step : IsNext scenario frame posts next) where
  abbrev crowd : List Agent
  crowd = crowd_after scenario posts frame

  abbrev own : ℕ → Agent
  own who = agent_at scenario.agents who

  abbrev place : ℕ → Place
  place who = place_in scenario frame who

  abbrev disc : ℕ → Disc
  disc who = disc_in scenario frame who

  abbrev tau : ℕ → ℕ → ℕ
  tau a b = joint_horizon scenario a b

  abbrev weight : ℕ → ℕ
  weight who = (own who).weight

  built : (who : ℕ) → who < length scenario.agents → IsAgent (own who)
  built who h = valid.agents who nobody h

  moved : (who : ℕ) → who < length scenario.agents → IsMoved scenario crowd who (body_at (after_posts posts frame.bodies) who) (body_at next.bodies who)
  moved who h = step.moved who (omega (arith, sound.full))

  -- no velocity of the next frame is longer than its agent's speed
  pub slow : (who : ℕ) → who < length scenario.agents → square (vel_in next who) ≤ℤ (pos (own who).speed *ℤ pos (own who).speed)
  slow who h =
      subst (λ (speed : ℕ). square (vel_in next who) ≤ℤ (pos speed *ℤ pos speed)) (ap (λ (agent : Agent). agent.speed) (agent_is scenario posts frame sound who h))
      (advice_within scenario crowd who (vel_in next who) (body_at next.bodies who).mark (body_at next.bodies who).relief (moved who h).advice)

  -- ---- who sees whom

  -- a feasible agent sees each other one that is near
  sees : (who other : ℕ) → who < length scenario.agents → other < length scenario.agents → other ≢ who → (body_at next.bodies who).mark ≡ Feasible → IsNear (place who) (place other)
      → Contains (neighbours_of crowd who) other
  sees who other h k ne feasible near =
      sees_near crowd who other
      (advice_roomy scenario crowd who (vel_in next who) (body_at next.bodies who).mark (body_at next.bodies who).relief (moved who h).advice feasible)
      (subst (λ (n : ℕ). other < n) (sym (places_count scenario posts frame sound)) k) ne
      (subst (λ (p : Place). IsNear p (place_at (map place_of crowd) other)) (sym (place_is scenario posts frame sound who h))
      (subst (λ (p : Place). IsNear (place who) p) (sym (place_is scenario posts frame sound other k)) near))

  -- a neighbour's squared distance is below 2^32
  pair_near : (who other : ℕ) → who < length scenario.agents → other < length scenario.agents → Contains (neighbours_of crowd who) other
      → square (minus (at_in frame other) (at_in frame who)) <ℤ pos (2 ^ 32)
  pair_near who other h k seen =
      let range_is = ap (λ (agent : Agent). agent.range) (agent_is scenario posts frame sound who h) in
      near_square (square (minus (at_in frame other) (at_in frame who))) (own who).range
      (subst (λ (p : Place). squared_gap p.pos (at_in frame who) < (own who).range * (own who).range) (place_is scenario posts frame sound other k)
      (subst (λ (p : Place). squared_gap (place_at (map place_of crowd) other).pos p.pos < (own who).range * (own who).range) (place_is scenario posts frame sound who h)
      (subst (λ (r : ℕ). squared_gap (place_at (map place_of crowd) other).pos (place_at (map place_of crowd) who).pos < r * r) range_is (neighbour_in_range crowd who other seen))))
      (built who h).build.range

  -- an agent and its neighbour are within the limits of pairs
  pair_is : (a b : ℕ) → a < length scenario.agents → b < length scenario.agents → Contains (neighbours_of crowd a) b → IsPair (disc a) (disc b) (tau a b)
  pair_is a b ha hb seen =
      let low = (built a ha).build in
      let high = (built b hb).build in
      record {
        near = pair_near a b ha hb seen;
        low_vel = sound.slow a no_body (omega (arith, sound.full));
        high_vel = sound.slow b no_body (omega (arith, sound.full));
        some_low_radius = low.some_radius;
        low_radius = low.radius;
        some_high_radius = high.some_radius;
        high_radius = high.radius;
        some_tau = omega (arith, low.some_horizon, high.some_horizon);
        tau_limit = omega (arith, low.horizon);
      }

  -- ---- two agents, of which a has the lower number

  -- each is among the other's neighbours
  abbrev Sighted : ℕ → ℕ → Type 0
  Sighted a b = Contains (neighbours_of crowd a) b × Contains (neighbours_of crowd b) a

  sighted : (a b : ℕ) → a < length scenario.agents → b < length scenario.agents → a < b → BothFeasible next a b → IsNear (place a) (place b) → Sighted a b
  sighted a b ha hb order both near = (sees a b ha hb (omega arith) both.0 near, sees b a hb ha (omega arith) both.1 (mirrored_near (place a) (place b) near))

  -- a feasible agent meets its share against one that it sees
  meets : (who other : ℕ) (share : Plane) → who < length scenario.agents → (body_at next.bodies who).mark ≡ Feasible → Contains (neighbours_of crowd who) other
      → share_against crowd who other ≡ drawn_of share → IsIn share (whole (vel_in next who))
  meets who other share h feasible seen =
      feasible_meets scenario crowd who (vel_in next who) (body_at next.bodies who).mark (body_at next.bodies who).relief other share (moved who h).advice feasible seen

  shares_met : (a b : ℕ) → a < length scenario.agents → b < length scenario.agents → a < b → BothFeasible next a b → Sighted a b
      → IsIn (lower_share (disc a) (disc b) (tau a b) (weight a) (weight b)) (whole (vel_in next a)) × IsIn (higher_share (disc a) (disc b) (tau a b) (weight a) (weight b)) (whole (vel_in next b))
  shares_met a b ha hb order both seen = (
    meets a b (lower_share (disc a) (disc b) (tau a b) (weight a) (weight b)) ha both.0 seen.0 (lower_is scenario posts frame sound a b ha hb order),
    meets b a (higher_share (disc a) (disc b) (tau a b) (weight a) (weight b)) hb both.1 seen.1 (higher_is scenario posts frame sound a b ha hb order),
  )

  -- far pairs, whatever their marks
  far_step : (a b : ℕ) → a < length scenario.agents → b < length scenario.agents → ¬ IsNear (place a) (place b)
      → ApartThroughout (at_in frame a) (vel_in next a) (at_in frame b) (vel_in next b) (radii scenario a b)
  far_step a b ha hb far = far_apart (place a) (place b) (vel_in next a) (vel_in next b) far (slow a ha) (slow b hb)

  -- near ones
  near_step : (a b : ℕ) → a < length scenario.agents → b < length scenario.agents → a < b → AreApart scenario frame a b → BothFeasible next a b → IsNear (place a) (place b)
      → ApartThroughout (at_in frame a) (vel_in next a) (at_in frame b) (vel_in next b) (radii scenario a b)
  near_step a b ha hb order apart both near =
      let seen = sighted a b ha hb order both near in
      let met = shares_met a b ha hb order both seen in
      step_apart (disc a) (disc b) (tau a b) (weight a) (weight b) (vel_in next a) (vel_in next b) (pair_is a b ha hb seen.0) apart met.0 met.1

  -- and all that are apart
  any_step : (a b : ℕ) → a < length scenario.agents → b < length scenario.agents → a < b → AreApart scenario frame a b → BothFeasible next a b
      → ApartThroughout (at_in frame a) (vel_in next a) (at_in frame b) (vel_in next b) (radii scenario a b)
  any_step a b ha hb order apart both =
      let reach : ℕ = (own a).radius + (own b).radius + (own a).speed + (own b).speed in
      ⊎_elim (λ beyond. far_step a b ha hb (λ near. absurd (omega (arith, near, beyond)))) (λ near. near_step a b ha hb order apart both near)
      (cases_lt (reach * reach) (squared_gap (at_in frame a) (at_in frame b)))

  -- two that overlap are near
  overlap_is_near : (a b : ℕ) → ¬ AreApart scenario frame a b → IsNear (place a) (place b)
  overlap_is_near a b over =
      let o = minus (at_in frame a) (at_in frame b) in
      let turn = square-minus (at_in frame b) (at_in frame a) in
      overlap_near (square o) (own a).radius (own b).radius (own a).speed (own b).speed
      (λ apart. over (subst (λ (z : ℤ). (radii scenario a b *ℤ radii scenario a b) ≤ℤ z) turn apart)) (sum_nonneg _ _ (square_nonneg o.x) (square_nonneg o.y))

  moved_from : (who : ℕ) → who < length scenario.agents → plus (at_in frame who) (vel_in next who) ≡ at_in next who
  moved_from who h = sym ((moved who h).pos ∙ ap (λ (at : V2). plus at (vel_in next who)) (pos-after_posts who posts frame.bodies))

  -- and part
  end_step : (a b : ℕ) → a < length scenario.agents → b < length scenario.agents → a < b → ¬ AreApart scenario frame a b → BothFeasible next a b → AreApart scenario next a b
  end_step a b ha hb order over both =
      let met = shares_met a b ha hb order both (sighted a b ha hb order both (overlap_is_near a b over)) in
      subst (λ (at : V2). IsApart at (at_in next b) (radii scenario a b)) (moved_from a ha)
      (subst (λ (at : V2). IsApart (plus (at_in frame a) (vel_in next a)) at (radii scenario a b)) (moved_from b hb)
      (end_apart (disc a) (disc b) (tau a b) (weight a) (weight b) (vel_in next a) (vel_in next b) over met.0 met.1))

  -- neighbours, throughout the smaller horizon
  horizon_step : (a b : ℕ) → a < length scenario.agents → b < length scenario.agents → a < b → AreApart scenario frame a b → BothFeasible next a b → SeeEachOther scenario frame a b
      → StayApart scenario frame next (tau a b) a b
  horizon_step a b ha hb order apart both see =
      let sees_b = subst (λ (seen : List ℕ). Contains seen b) (neighbours_are scenario posts frame sound a ha) see.0 in
      let sees_a = subst (λ (seen : List ℕ). Contains seen a) (neighbours_are scenario posts frame sound b hb) see.1 in
      let met = shares_met a b ha hb order both (sees_b, sees_a) in
      horizon_apart (disc a) (disc b) (tau a b) (weight a) (weight b) (vel_in next a) (vel_in next b) (pair_is a b ha hb sees_b) apart met.0 met.1

  -- ---- as the definitions say it

  near_from : (a b : ℕ) → a < length scenario.agents → b < length scenario.agents → IsNear (place a) (place b) → AreNear scenario frame a b
  near_from a b ha hb near =
      subst (λ (p : Place). IsNear p (place_of (agent_at (crowd_of scenario.agents frame.bodies) b))) (sym (still_place scenario posts frame sound a ha))
      (subst (λ (p : Place). IsNear (place a) p) (sym (still_place scenario posts frame sound b hb)) near)

  one_step : (a b : ℕ) → ApartThroughout (at_in frame a) (vel_in next a) (at_in frame b) (vel_in next b) (radii scenario a b) → StayApart scenario frame next 1 a b
  one_step a b apart =
      subst (λ (v : V2). ApartThroughout (at_in frame a) v (at_in frame b) (times (pos 1) (vel_in next b)) (radii scenario a b)) (times_one (vel_in next a))
      (subst (λ (v : V2). ApartThroughout (at_in frame a) (vel_in next a) (at_in frame b) v (radii scenario a b)) (times_one (vel_in next b)) apart)

  keeps_in_order : (a b : ℕ) → a < length scenario.agents → b < length scenario.agents → a < b → KeepsApart scenario frame next a b
  keeps_in_order a b ha hb order = record {
    pairs = λ apart both. one_step a b (any_step a b ha hb order apart both);
    overlapping = end_step a b ha hb order;
    far = λ far. one_step a b (far_step a b ha hb (λ near. far (near_from a b ha hb near)));
    horizon = horizon_step a b ha hb order;
  }

-- the law of a step
pub pairs_keep_apart : (scenario : Parts) (frame next : Snapshot) (posts : List Post) → IsValid scenario → IsSound scenario frame → IsNext scenario frame posts next → PairsKeepApart scenario frame next
pairs_keep_apart scenario frame next posts valid sound step a b ha hb ne =
    ⊎_elim (λ order. keeps_in_order scenario frame posts next valid sound step a b ha hb order)
    (λ order. mirrored scenario frame next a b (keeps_in_order scenario frame posts next valid sound step b a hb ha (omega (arith, ne)))) (cases_lt a b)
