-- From a frame in which every body is clear of every segment, advised velocities keep all bodies off all segments.
use Rattle.std.proofs.Common.{◌≡◌, ◌∙◌, ◌≤◌, ℕ, List, [], ◌∷◌, sym, ap, slice_index_or, subst, arith, ℤ, pos, ◌*ℤ◌, ◌≤ℤ◌}
use Rattle.std.specs.List.{All}
use Rattle.std.proofs.lemmas.Int.{ints}
use Rattle.exact_algebra.proofs.Ring.{quotes, shown}
use Rattle.exact_algebra.proofs.Order.{gap_nonneg}
use Rattle.fixed_vec.specs.declared.vector.V2.{V2}
use Rattle.fixed_vec.specs.Vector.{minus, plus, square, times}
use Rattle.crowd_data.specs.declared.agent.Agent.{Agent}
use Rattle.crowd_data.specs.declared.segment.Segment.{Segment}
use Rattle.crowd_data.specs.declared.frame.Mark.{Mark}
use Rattle.crowd_data.specs.declared.post.Post.{Post}
use Rattle.crowd_data.specs.Advice.{IsAdvice, agent_at, nobody}
use Rattle.crowd_data.specs.Run.{IsNext, Snapshot, after_posts, body_at, crowd_of}
use Rattle.crowd_data.specs.Safety.{OffThroughout}
use Rattle.crowd_data.specs.SafeSteps.{ClearFrame, StaysOff, at_in, vel_in}
use Rattle.crowd_data.specs.Scenario.{IsValid, Parts}
use Rattle.crowd_data.specs.Walls.{IsClear}
use Rattle.crowd_data.proofs.Posts.{pos-after_posts}
use Rattle.separation_law.proofs.Walls.{stays_off, stays_off_for}
use Rattle.run_law.proofs.Advised.{advice_respects}
use Rattle.run_law.proofs.Sound.{IsSound}
use Rattle.run_law.proofs.Standing.{agent_is}

-- ---- one advice

-- the velocity keeps the agent off a segment, for its wall horizon and for one step
abbrev pub IsKeptOff : V2 → V2 → Agent → Segment → Type 0
IsKeptOff at vel agent segment = OffThroughout at vel agent.radius segment × OffThroughout at (times (pos agent.wall_horizon) vel) agent.radius segment

pub advice_off : (scenario : Parts) (crowd : List Agent) (who : ℕ) (vel : V2) (mark : Mark) (relief : ℕ) → 1 ≤ (agent_at crowd who).radius → 1 ≤ (agent_at crowd who).wall_horizon
    → All (IsClear (agent_at crowd who).pos (agent_at crowd who).radius) scenario.segments → IsAdvice scenario crowd who vel mark relief
    → All (IsKeptOff (agent_at crowd who).pos vel (agent_at crowd who)) scenario.segments
advice_off scenario crowd who vel mark relief some_radius some_horizon clear advice k d l =
    let respects = advice_respects scenario crowd who vel mark relief advice k d l in
    let segment = slice_index_or scenario.segments k d in (
      stays_off (agent_at crowd who).pos (agent_at crowd who) segment vel some_radius some_horizon (clear k d l) respects,
      stays_off_for (agent_at crowd who).pos (agent_at crowd who) segment vel some_radius some_horizon (clear k d l) respects,
    )

-- at the end of a way that stays off a segment the disc is clear of it
pub clear_after : (at vel : V2) (radius : ℕ) (segment : Segment) → OffThroughout at vel radius segment → IsClear (plus at vel) radius segment
clear_after at vel radius segment off j i hj hi hi0 =
    by (pos radius) (off (pos 1) (pos 1) j i (omega (arith, ints)) (omega (arith, ints)) (omega (arith, ints)) hj hi hi0)
  where
    by : (r : ℤ)
        → ((pos 1 *ℤ i *ℤ r) *ℤ (pos 1 *ℤ i *ℤ r)) ≤ℤ square (minus (plus (times (pos 1 *ℤ i) (minus at segment.a)) (times (pos 1 *ℤ i) vel)) (times (pos 1 *ℤ j) (minus segment.b segment.a)))
        → (i *ℤ i *ℤ (r *ℤ r)) ≤ℤ square (minus (times i (minus (plus at vel) segment.a)) (times j (minus segment.b segment.a)))
    by r h = shown (at.x ∷ at.y ∷ vel.x ∷ vel.y ∷ segment.a.x ∷ segment.a.y ∷ segment.b.x ∷ segment.b.y ∷ r ∷ j ∷ i ∷ []) (gap_nonneg _ _ h) (search quotes depth 60 fits 80000) tt

-- ---- one step

module _ (scenario : Parts) (valid : IsValid scenario) (frame next : Snapshot) (posts : List Post) (sound : IsSound scenario frame) (step : IsNext scenario frame posts next) where
  pub step_off : StaysOff scenario frame next
  step_off who h =
      let bodies = after_posts posts frame.bodies in
      let crowd = crowd_of scenario.agents bodies in
      let agent = agent_at scenario.agents who in
      let vel = vel_in next who in
      let build = (valid.agents who nobody h).build in
      let same = agent_is scenario posts frame sound who h in
      let stays = pos-after_posts who posts frame.bodies in
      let moved = step.moved who (omega (arith, sound.full, h)) in
      let clear = subst (λ at. All (IsClear at agent.radius) scenario.segments) (sym stays) (sound.clear who h) in
      let off = advice_off scenario crowd who vel (body_at next.bodies who).mark (body_at next.bodies who).relief
      (subst (λ a. 1 ≤ a.radius) (sym same) build.some_radius) (subst (λ a. 1 ≤ a.wall_horizon) (sym same) build.some_wall_horizon)
      (subst (λ a. All (IsClear a.pos a.radius) scenario.segments) (sym same) clear) moved.advice in
      let kept : All (IsKeptOff (body_at bodies who).pos vel agent) scenario.segments = subst (λ a. All (IsKeptOff a.pos vel a) scenario.segments) same off in
      subst (λ at. All (IsKeptOff at vel agent) scenario.segments) stays kept

  pub step_clear : ClearFrame scenario next
  step_clear who h k d l =
      let moved = step.moved who (omega (arith, sound.full, h)) in
      let segment = slice_index_or scenario.segments k d in
      let off = (step_off who h k d l).0 in
      let at : (at_in next who) ≡ plus (at_in frame who) (vel_in next who) = moved.pos ∙ ap (λ at. plus at (vel_in next who)) (pos-after_posts who posts frame.bodies) in
      subst (λ at. IsClear at (agent_at scenario.agents who).radius segment) (sym at) (clear_after (at_in frame who) (vel_in next who) (agent_at scenario.agents who).radius segment off)
