-- The agents of a scenario as they stand in a frame: what the advice takes from the crowd after the posts
-- is the build of the scenario, and the position and the velocity of the frame.
use Rattle.std.proofs.Common.{◌≡◌, ◌∙◌, ◌<◌, ℕ, List, map, length, sym, ap, arith}
use Rattle.std.specs.Prelude.{min}
use Rattle.fixed_vec.specs.HalfPlane.{drawn_of}
use Rattle.crowd_data.specs.declared.agent.Agent.{Agent}
use Rattle.crowd_data.specs.declared.pair.Disc.{Disc}
use Rattle.crowd_data.specs.declared.pair.Place.{Place}
use Rattle.crowd_data.specs.declared.post.Post.{Post}
use Rattle.crowd_data.specs.Advice.{agent_at, disc_of, neighbours_of, place_of, share_against}
use Rattle.crowd_data.specs.Neighbours.{Seen, neighbours, place_at}
use Rattle.crowd_data.specs.Pairs.{higher_share, lower_share}
use Rattle.crowd_data.specs.Run.{Snapshot, after_posts, body_at, crowd_of, standing}
use Rattle.crowd_data.specs.SafeSteps.{at_in}
use Rattle.crowd_data.specs.Scenario.{Parts}
use Rattle.crowd_data.proofs.Crowds.{agent_at-crowd_of, length-places, place_at-map}
use Rattle.crowd_data.proofs.Posts.{length-after_posts, places-after_posts, pos-after_posts, vel-after_posts}
use Rattle.crowd_data.proofs.Shares.{higher_against, lower_against}
use Rattle.run_law.proofs.Sound.{IsSound}

-- an agent as a moving disc
abbrev pub disc_in : Parts → Snapshot → ℕ → Disc
disc_in scenario frame who = record { pos = at_in frame who; vel = (body_at frame.bodies who).vel; radius = (agent_at scenario.agents who).radius }

-- where it is, and how far it can come
abbrev pub place_in : Parts → Snapshot → ℕ → Place
place_in scenario frame who = record { pos = at_in frame who; radius = (agent_at scenario.agents who).radius; speed = (agent_at scenario.agents who).speed }

-- the smaller horizon of two agents
abbrev pub joint_horizon : Parts → ℕ → ℕ → ℕ
joint_horizon scenario a b = min (agent_at scenario.agents a).horizon (agent_at scenario.agents b).horizon

-- the crowd that the advice is taken from
abbrev pub crowd_after : Parts → List Post → Snapshot → List Agent
crowd_after scenario posts frame = crowd_of scenario.agents (after_posts posts frame.bodies)

module _ (scenario : Parts) (posts : List Post) (frame : Snapshot) (sound : IsSound scenario frame) where
  many : length (after_posts posts frame.bodies) ≡ length scenario.agents
  many = length-after_posts posts frame.bodies ∙ sound.full

  -- there are as many places as agents
  pub places_count : length (map place_of (crowd_after scenario posts frame)) ≡ length scenario.agents
  places_count = length-places scenario.agents (after_posts posts frame.bodies) many

  -- an agent after the posts, and before them
  pub agent_is : (who : ℕ) → who < length scenario.agents → agent_at (crowd_after scenario posts frame) who ≡ standing (agent_at scenario.agents who) (body_at (after_posts posts frame.bodies) who)
  agent_is who h = agent_at-crowd_of scenario.agents (after_posts posts frame.bodies) who h many

  still_is : (who : ℕ) → who < length scenario.agents → agent_at (crowd_of scenario.agents frame.bodies) who ≡ standing (agent_at scenario.agents who) (body_at frame.bodies who)
  still_is who h = agent_at-crowd_of scenario.agents frame.bodies who h sound.full

  pub still_place : (who : ℕ) → who < length scenario.agents → place_of (agent_at (crowd_of scenario.agents frame.bodies) who) ≡ place_in scenario frame who
  still_place who h = ap place_of (still_is who h)

  pub disc_is : (who : ℕ) → who < length scenario.agents → disc_of (agent_at (crowd_after scenario posts frame) who) ≡ disc_in scenario frame who
  disc_is who h =
      let pos_is = pos-after_posts who posts frame.bodies in
      let vel_is = vel-after_posts who posts frame.bodies in
      ap disc_of (agent_is who h) ∙ (λ i. record { pos = pos_is i; vel = vel_is i; radius = (agent_at scenario.agents who).radius })

  pub place_is : (who : ℕ) → who < length scenario.agents → place_at (map place_of (crowd_after scenario posts frame)) who ≡ place_in scenario frame who
  place_is who h =
      ap (λ (places : List Place). place_at places who) (places-after_posts scenario.agents posts frame.bodies)
      ∙ (place_at-map (crowd_of scenario.agents frame.bodies) who ∙ still_place who h)

  horizon_is : (who : ℕ) → who < length scenario.agents → (agent_at (crowd_after scenario posts frame) who).horizon ≡ (agent_at scenario.agents who).horizon
  horizon_is who h = ap (λ (agent : Agent). agent.horizon) (agent_is who h)

  weight_is : (who : ℕ) → who < length scenario.agents → (agent_at (crowd_after scenario posts frame) who).weight ≡ (agent_at scenario.agents who).weight
  weight_is who h = ap (λ (agent : Agent). agent.weight) (agent_is who h)

  -- the neighbours before the posts are those after them
  pub neighbours_are : (who : ℕ) → who < length scenario.agents → neighbours_of (crowd_of scenario.agents frame.bodies) who ≡ neighbours_of (crowd_after scenario posts frame) who
  neighbours_are who h =
      let places = sym (places-after_posts scenario.agents posts frame.bodies) in
      let range = ap (λ (agent : Agent). agent.range) (still_is who h) ∙ sym (ap (λ (agent : Agent). agent.range) (agent_is who h)) in
      let most = ap (λ (agent : Agent). agent.most) (still_is who h) ∙ sym (ap (λ (agent : Agent). agent.most) (agent_is who h)) in
      λ i. map (λ (seen : Seen). seen.agent) (neighbours (places i) who (range i) (most i))

  -- the shares of two agents, of which a has the lower number
  pub lower_is : (a b : ℕ) → a < length scenario.agents → b < length scenario.agents → a < b
      → share_against (crowd_after scenario posts frame) a b ≡ drawn_of (lower_share (disc_in scenario frame a) (disc_in scenario frame b) (joint_horizon scenario a b) (agent_at scenario.agents a).weight (agent_at scenario.agents b).weight)
  lower_is a b ha hb order =
      let low = disc_is a ha in
      let high = disc_is b hb in
      let low_horizon = horizon_is a ha in
      let high_horizon = horizon_is b hb in
      let low_weight = weight_is a ha in
      let high_weight = weight_is b hb in
      lower_against (crowd_after scenario posts frame) a b order ∙ (λ i. drawn_of (lower_share (low i) (high i) (min (low_horizon i) (high_horizon i)) (low_weight i) (high_weight i)))

  pub higher_is : (a b : ℕ) → a < length scenario.agents → b < length scenario.agents → a < b
      → share_against (crowd_after scenario posts frame) b a ≡ drawn_of (higher_share (disc_in scenario frame a) (disc_in scenario frame b) (joint_horizon scenario a b) (agent_at scenario.agents a).weight (agent_at scenario.agents b).weight)
  higher_is a b ha hb order =
      let low = disc_is a ha in
      let high = disc_is b hb in
      let low_horizon = horizon_is a ha in
      let high_horizon = horizon_is b hb in
      let low_weight = weight_is a ha in
      let high_weight = weight_is b hb in
      higher_against (crowd_after scenario posts frame) b a (omega (arith, order)) ∙ (λ i. drawn_of (higher_share (low i) (high i) (min (low_horizon i) (high_horizon i)) (low_weight i) (high_weight i)))
