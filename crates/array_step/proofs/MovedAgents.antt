-- Agents that move one after another.
use Rattle.std.proofs.Common.{◌≡◌, ◌∙◌, ⊎_elim, ℕ, zero, suc, ◌<◌, ◌≤◌, ◌+◌, List, [], ◌∷◌, length, drop, map, take, slice_index_or, slice_set, refl, ap, sym, subst, arith}
use Rattle.std.proofs.lemmas.Bool.{cases_lt}
use Rattle.std.proofs.lemmas.List.{ext_get_or, get_or-drop, get_or-map, get_or-set_other, get_or-set_same, get_or-take, length-drop}
use Rattle.fixed_vec.specs.declared.vector.V2.{V2}
use Rattle.fixed_vec.specs.Vector.{plus}
use Rattle.crowd_data.specs.declared.agent.Agent.{Agent}
use Rattle.crowd_data.specs.declared.frame.Body.{Body}
use Rattle.crowd_data.specs.declared.frame.Mark.{Mark}
use Rattle.crowd_data.specs.Advice.{IsAdvice, agent_at, nobody}
use Rattle.crowd_data.specs.Limits.{IsPosition}
use Rattle.crowd_data.specs.Run.{IsNext, Snapshot, body_at, crowd_of, no_body, start_of, starting_bodies}
use Rattle.crowd_data.specs.Scenario.{IsValid, Parts}
use Rattle.crowd_data.proofs.Frames.{length-starting_bodies, pos-starting_bodies}
use Rattle.run_law.proofs.OneValue.{one_advice}
use Rattle.agent_step.specs.Frozen.{FrozenState, agents_in}
use Rattle.array_step.specs.declared.agent.CrowdAgent.{CrowdAgent}
use Rattle.array_step.specs.Arrays.{advised, agent_of, all_moved, mark_number, moved_by}
use Rattle.array_step.proofs.StrayAgent.{stray}

-- ---- lists

pub length-all_moved : (agents : List CrowdAgent) (bodies : List Body) → length (all_moved agents bodies) ≡ length agents
length-all_moved [] bodies = refl
length-all_moved (a ∷ agents) [] = refl
length-all_moved (a ∷ agents) (b ∷ bodies) = ap suc (length-all_moved agents bodies)

pub item-all_moved : (agents : List CrowdAgent) (bodies : List Body) (who : ℕ) (d : CrowdAgent) → length agents ≤ length bodies → who < length agents
    → slice_index_or (all_moved agents bodies) who d ≡ moved_by (slice_index_or agents who d) (body_at bodies who)
item-all_moved [] bodies who d e h = absurd (omega arith)
item-all_moved (a ∷ agents) [] who d e h = absurd (omega (arith, e))
item-all_moved (a ∷ agents) (b ∷ bodies) zero d e h = refl
item-all_moved (a ∷ agents) (b ∷ bodies) (suc who) d e h = item-all_moved agents bodies who d (omega (arith, e)) (omega arith)

-- ---- an agent that takes its advice

module _ (scenario : Parts) (who : ℕ) (inside : who < length scenario.agents) (a : CrowdAgent) (is : agent_of a ≡ agent_at scenario.agents who) where
  pub starts_at : (body_at (starting_bodies 0 scenario.agents) who).pos ≡ (agent_of a).pos
  starts_at = pos-starting_bodies 0 scenario.agents who inside ∙ ap (λ (agent : Agent). agent.pos) (sym is)

  -- is moved by its body in the next frame
  pub by_advice : (next : Snapshot) (vel : V2) (mark : Mark) (relief : ℕ) → IsNext scenario (start_of scenario) [] next
      → IsAdvice scenario (crowd_of scenario.agents (starting_bodies 0 scenario.agents)) who vel mark relief → advised a vel mark relief ≡ moved_by a (body_at next.bodies who)
  by_advice next vel mark relief step advice =
      let moved = step.moved who (omega (arith, inside, length-starting_bodies 0 scenario.agents)) in
      let body = body_at next.bodies who in
      let (same_vel, same_mark, same_relief) =
      one_advice scenario (crowd_of scenario.agents (starting_bodies 0 scenario.agents)) who vel body.vel mark body.mark relief body.relief advice moved.advice in
      let at : plus (agent_of a).pos vel ≡ body.pos = (λ i. plus (sym starts_at i) (same_vel i)) ∙ sym moved.pos in
      λ i. record a { x = (at i).x; y = (at i).y; vel_x = (same_vel i).x; vel_y = (same_vel i).y; mark = mark_number (same_mark i); relief = same_relief i }

-- ---- agents that are some of a scenario's

module _ (scenario : Parts) (first : ℕ) (agents : List CrowdAgent) (there : first + length agents ≤ length scenario.agents)
    (are : map agent_of agents ≡ take (length agents) (drop first scenario.agents)) where
  pub agent_is : (k : ℕ) (d : CrowdAgent) → k < length agents → agent_of (slice_index_or agents k d) ≡ agent_at scenario.agents (first + k)
  agent_is k d h =
      sym (get_or-map agent_of agents k d nobody h) ∙ ap (λ (list : List Agent). agent_at list k) are ∙ get_or-take (length agents) (drop first scenario.agents) k nobody h
      ∙ get_or-drop first scenario.agents k nobody

  pub position_is : IsValid scenario → (k : ℕ) (d : CrowdAgent) → k < length agents → IsPosition (agent_of (slice_index_or agents k d)).pos
  position_is valid k d h =
      subst (λ (agent : Agent). IsPosition agent.pos) (sym (agent_is k d h)) (valid.agents (first + k) nobody (omega (arith, there, h))).pos

  -- agents that have all moved by their bodies in the next frame
  pub all_have : (next : Snapshot) (new : List CrowdAgent) → IsNext scenario (start_of scenario) [] next → length new ≡ length agents
      → ((k : ℕ) (d : CrowdAgent) → k < length agents → slice_index_or new k d ≡ moved_by (slice_index_or agents k d) (body_at next.bodies (first + k)))
      → new ≡ all_moved agents (drop first next.bodies)
  all_have next new step count each =
      let enough : length agents ≤ length (drop first next.bodies) =
      omega (arith, there, length-drop first next.bodies, step.bodies, length-starting_bodies 0 scenario.agents) in
      ext_get_or stray new (all_moved agents (drop first next.bodies)) (count ∙ sym (length-all_moved agents (drop first next.bodies)))
      (λ k h.
      let here : k < length agents = omega (arith, h, count) in
      each k stray here ∙ ap (moved_by (slice_index_or agents k stray)) (sym (get_or-drop first next.bodies k no_body))
      ∙ sym (item-all_moved agents (drop first next.bodies) k stray enough here))

-- an agent that takes its advice in the frozen state of frame 0 is moved by its body in the next frame
pub here_moved : (state : FrozenState) (first : ℕ) (agents : List CrowdAgent) (there : first + length agents ≤ length state.scenario.agents)
    (are : map agent_of agents ≡ take (length agents) (drop first state.scenario.agents)) → state.frame ≡ start_of state.scenario → (k : ℕ) (d : CrowdAgent) → k < length agents
    → (vel : V2) (mark : Mark) (relief : ℕ) → IsAdvice state.scenario (agents_in state) (first + k) vel mark relief → (next : Snapshot) → IsNext state.scenario state.frame [] next
    → advised (slice_index_or agents k d) vel mark relief ≡ moved_by (slice_index_or agents k d) (body_at next.bodies (first + k))
here_moved state first agents there are start k d h vel mark relief advice next step =
    let s = state.scenario in
    by_advice s (first + k) (omega (arith, there, h)) (slice_index_or agents k d) (agent_is s first agents there are k d h) next vel mark relief
    (subst (λ (frame : Snapshot). IsNext s frame [] next) start step)
    (subst (λ (frame : Snapshot). IsAdvice s (crowd_of s.agents frame.bodies) (first + k) vel mark relief) start advice)

-- ---- one more

module _ (agents : List CrowdAgent) (k : ℕ) (v d : CrowdAgent) where
  pub one_more : (P : ℕ → CrowdAgent → Type 0) → k < length agents → ((j : ℕ) → j < k → P j (slice_index_or agents j d)) → P k v
      → (j : ℕ) → j < k + 1 → P j (slice_index_or (slice_set agents k v) j d)
  one_more P inside all here j h = ⊎_elim
      (λ less. subst (P j) (sym (get_or-set_other agents k j v d (λ e. absurd (omega (arith, e, less))))) (all j less))
      (λ more.
      let same : k ≡ j = omega arith in
      subst (λ i. P i (slice_index_or (slice_set agents k v) i d)) same (subst (P k) (sym (get_or-set_same agents k v d inside)) here))
      (cases_lt j k)

  -- those behind it are as they were
  pub later_kept : (old : List CrowdAgent) → ((j : ℕ) → k ≤ j → slice_index_or agents j d ≡ slice_index_or old j d) → (j : ℕ) → k + 1 ≤ j
      → slice_index_or (slice_set agents k v) j d ≡ slice_index_or old j d
  later_kept old kept j h = get_or-set_other agents k j v d (λ e. absurd (omega (arith, e, h))) ∙ kept j (omega arith)
