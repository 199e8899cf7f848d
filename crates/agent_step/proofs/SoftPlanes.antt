-- The shares of an agent that is present: which pairs they are made from, and how large they are.
use Rattle.std.proofs.Common.{◌≡◌, ◌<◌, ◌^◌, ℕ, Bool, true, false, cond, ltb, List, length, All, sym, ap, subst, arith}
use Rattle.std.specs.Prelude.{min}
use Rattle.std.proofs.lemmas.Int.{ints}
use Rattle.std.proofs.lemmas.List.Elements.{All-map, All-weaker}
use Rattle.fixed_vec.specs.HalfPlane.{Plane, drawn_of}
use Rattle.crowd_data.specs.declared.agent.Agent.{Agent}
use Rattle.crowd_data.specs.declared.frame.Body.{Body}
use Rattle.crowd_data.specs.Advice.{agent_at, disc_of, neighbours_of, nobody, share_against, soft_planes}
use Rattle.crowd_data.specs.Limits.{IsBuild, IsVelocity}
use Rattle.crowd_data.specs.Neighbours.{squared_gap}
use Rattle.crowd_data.specs.Pairs.{IsPair}
use Rattle.crowd_data.specs.Run.{body_at, crowd_of, no_body}
use Rattle.crowd_data.proofs.Crowds.{agent_at-crowd_of, length-crowd_of, standing_build}
use Rattle.crowd_data.proofs.Sight.{squared_gap-comm}
use Rattle.pair_plane.proofs.Shares.{higher_sized, lower_sized}
use Rattle.pair_plane.specs.Sized.{IsShareSized, Sized}
use Rattle.pair_plane.proofs.Sized.{drawn_sized}
use Rattle.agent_step.specs.Sight.{ArePresent, IsSeen}
use Rattle.agent_step.proofs.Sight.{neighbours_seen}

-- ---- pairs

-- an agent that can be one of a pair
pub record CanMove (agent : Agent) : Type 0 where
  pub build : IsBuild agent
  pub vel : IsVelocity agent.vel

pair_of : (a b : Agent) → CanMove a → CanMove b → squared_gap b.pos a.pos < 2 ^ 32 → IsPair (disc_of a) (disc_of b) (min a.horizon b.horizon)
pair_of a b h k near = record {
  near = omega (arith, ints, near);
  low_vel = h.vel;
  high_vel = k.vel;
  some_low_radius = h.build.some_radius;
  low_radius = h.build.radius;
  some_high_radius = k.build.some_radius;
  high_radius = k.build.radius;
  some_tau = omega (arith, h.build.some_horizon, k.build.some_horizon);
  tau_limit = omega (arith, h.build.horizon, k.build.horizon);
}

pub present_as : (a b : List Agent) (x y : List Body) → a ≡ b → x ≡ y → ArePresent b y → ArePresent a x
present_as a b x y e f h = subst (λ (a : List Agent). ArePresent a x) (sym e) (subst (λ (x : List Body). ArePresent b x) (sym f) h)

module _ (agents : List Agent) (bodies : List Body) (present : ArePresent agents bodies) where
  horizon-at : (who : ℕ) → who < length agents → (agent_at agents who).horizon ≡ (agent_at (crowd_of agents bodies) who).horizon
  horizon-at who h = ap (λ (agent : Agent). agent.horizon) (sym (agent_at-crowd_of agents bodies who h present.count))

  pub weight-at : (who : ℕ) → who < length agents → (agent_at agents who).weight ≡ (agent_at (crowd_of agents bodies) who).weight
  weight-at who h = ap (λ (agent : Agent). agent.weight) (sym (agent_at-crowd_of agents bodies who h present.count))

  pub moves-at : (who : ℕ) → who < length agents → CanMove (agent_at (crowd_of agents bodies) who)
  moves-at who h =
      subst CanMove (sym (agent_at-crowd_of agents bodies who h present.count))
      (record { build = standing_build (agent_at agents who) (body_at bodies who) (present.sound who nobody h).build; vel = present.slow who no_body (omega (arith, h, present.count)) })

  module _ (who other : ℕ) (here : who < length agents) (seen : IsSeen (crowd_of agents bodies) who other) where
    abbrev a : Agent
    a = agent_at (crowd_of agents bodies) who

    abbrev b : Agent
    b = agent_at (crowd_of agents bodies) other

    pub there : other < length agents
    there = omega (arith, seen.there, length-crowd_of agents bodies present.count)

    pub lower_horizon : min (agent_at agents who).horizon (agent_at agents other).horizon ≡ min a.horizon b.horizon
    lower_horizon = let e = horizon-at who here in let f = horizon-at other there in omega (arith, e, f)

    pub higher_horizon : min (agent_at agents who).horizon (agent_at agents other).horizon ≡ min b.horizon a.horizon
    higher_horizon = let e = horizon-at who here in let f = horizon-at other there in omega (arith, e, f)

    pub lower_pair : IsPair (disc_of a) (disc_of b) (min a.horizon b.horizon)
    lower_pair = pair_of a b (moves-at who here) (moves-at other there) seen.near

    pub higher_pair : IsPair (disc_of b) (disc_of a) (min b.horizon a.horizon)
    higher_pair = pair_of b a (moves-at other there) (moves-at who here) (omega (arith, seen.near, squared_gap-comm a.pos b.pos))

    -- drawn in, the share is at most 200,585 lengths off
    share_sized : IsShareSized (share_against (crowd_of agents bodies) who other)
    share_sized = either (ltb who other) _ _ (lower_sized _ _ _ _ _ lower_pair (moves-at other there).build.weight.0) (higher_sized _ _ _ _ _ higher_pair (moves-at who here).build.weight.0)
      where
        either : (t : Bool) (x y : Plane) → Sized x 200584 → Sized y 200584 → IsShareSized (drawn_of (cond t x y))
        either true x y h k = drawn_sized x 200584 h
        either false x y h k = drawn_sized y 200584 k

  pub soft_sized : (who : ℕ) → who < length agents → All IsShareSized (soft_planes (crowd_of agents bodies) who)
  soft_sized who h =
      All-map IsShareSized (share_against (crowd_of agents bodies) who) (neighbours_of (crowd_of agents bodies) who)
      (All-weaker (IsSeen (crowd_of agents bodies) who) (λ other. IsShareSized (share_against (crowd_of agents bodies) who other))
      (λ other seen. share_sized who other h seen) (neighbours_of (crowd_of agents bodies) who)
      (neighbours_seen (crowd_of agents bodies) who (moves-at who h).build.range))
