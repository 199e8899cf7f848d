-- The agents of a frozen state, their polygons and whom they see.
use Rattle.std.proofs.Common.{◌≡◌, ◌∙◌, ◌<◌, ℕ, List, [], length, map, sym, ap, slice_index_or, subst}
use Rattle.std.specs.Prelude.{◌↔◌, Bool, IsTrue}
use Rattle.std.proofs.lemmas.List.{get_or-map}
use Rattle.std.proofs.lemmas.Simd.{map-map}
use Rattle.fixed_vec.specs.HalfPlane.{Plane}
use Rattle.crowd_data.specs.declared.agent.Agent.{Agent}
use Rattle.crowd_data.specs.declared.pair.Place.{Place}
use Rattle.crowd_data.specs.Advice.{IsCrowded, agent_at, neighbours_of, nobody, place_of}
use Rattle.crowd_data.specs.Neighbours.{MissesNear, Seen, neighbours}
use Rattle.crowd_data.specs.RingPlanes.{ring_planes}
use Rattle.crowd_data.specs.Run.{body_at, standing}
use Rattle.crowd_data.proofs.Crowds.{agent_at-crowd_of, length-places}
use Rattle.agent_kdtree.specs.declared.near.Near.{Near}
use Rattle.agent_kdtree.specs.Seen.{seen_of}
use Rattle.agent_step.specs.Frozen.{FrozenState, agents_in, polygons_of}
use Rattle.agent_step.specs.Sight.{seen_by}

module _ (state : FrozenState) (full : length state.frame.bodies ≡ length state.scenario.agents) where
  pub agent_in : (who : ℕ) → who < length state.scenario.agents → agent_at (agents_in state) who ≡ standing (agent_at state.scenario.agents who) (body_at state.frame.bodies who)
  agent_in who h = agent_at-crowd_of state.scenario.agents state.frame.bodies who h full

  -- the polygon at a place is that of the agent
  pub polygon_of : (made : List (List Plane)) (who : ℕ) → who < length state.scenario.agents → made ≡ polygons_of state.scenario
      → slice_index_or made who [] ≡ ring_planes state.scenario.ring (agent_at (agents_in state) who).speed
  polygon_of made who h are =
      ap (λ made. slice_index_or made who []) are ∙ get_or-map (λ (agent : Agent). ring_planes state.scenario.ring agent.speed) state.scenario.agents who nobody [] h
      ∙ sym (ap (λ (agent : Agent). ring_planes state.scenario.ring agent.speed) (agent_in who h))

  module _ (places : List Place) (are : places ≡ map place_of (agents_in state)) where
    pub length-standing : length places ≡ length state.scenario.agents
    length-standing = ap length are ∙ length-places state.scenario.agents state.frame.bodies full

    -- an agent of the scenario looks as far, and for as many, as it does in the frame
    pub seen_as : (who : ℕ) → who < length state.scenario.agents
        → neighbours places who (agent_at state.scenario.agents who).range (agent_at state.scenario.agents who).most ≡ seen_by (agents_in state) who
    seen_as who h = let e = sym (agent_in who h) in (λ i. neighbours (are i) who (e i).range (e i).most)

    pub crowded_as : (who : ℕ) (near : List Near) (crowded : Bool) → map seen_of near ≡ seen_by (agents_in state) who
        → (IsTrue crowded ↔ MissesNear places who (map (λ (near : Near). near.agent) near)) → IsTrue crowded ↔ IsCrowded (agents_in state) who
    crowded_as who near crowded e h =
        let numbers : map (λ (near : Near). near.agent) near ≡ neighbours_of (agents_in state) who =
        sym (map-map (λ (seen : Seen). seen.agent) seen_of near) ∙ ap (map (λ (seen : Seen). seen.agent)) e in
        subst (λ (others : List ℕ). IsTrue crowded ↔ MissesNear (map place_of (agents_in state)) who others) numbers
        (subst (λ (places : List Place). IsTrue crowded ↔ MissesNear places who (map (λ (near : Near). near.agent) near)) are h)
