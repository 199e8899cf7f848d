-- Each frame with a body for each agent and a step left has a next one, whatever is posted.
use Rattle.std.proofs.Common.{◌≡◌, ◌∙◌, ⊎_elim, ℕ, zero, suc, ◌<◌, ◌+◌, ◌≤◌, List, [], ◌∷◌, ◌++◌, length, refl, ap, subst, arith}
use Rattle.std.proofs.lemmas.Bool.{cases_lt}
use Rattle.std.proofs.lemmas.List.{get_or_append_left, get_or_push, length_push}
use Rattle.crowd_data.specs.declared.agent.Agent.{Agent}
use Rattle.crowd_data.specs.declared.frame.Body.{Body}
use Rattle.crowd_data.specs.declared.post.Post.{Post}
use Rattle.crowd_data.specs.Advice.{agent_at, nobody}
use Rattle.crowd_data.specs.Run.{IsMoved, IsNext, Snapshot, after_posts, body_at, crowd_of, moved_body, no_body}
use Rattle.crowd_data.specs.Scenario.{IsValid, Parts}
use Rattle.crowd_data.proofs.Crowds.{agent_at-crowd_of}
use Rattle.crowd_data.proofs.Posts.{length-after_posts}
use Rattle.run_law.proofs.SoftNormals.{soft_nonzero}
use Rattle.run_law.proofs.SomeAdvice.{HasAdvice, some_advice}

-- what holds of each body so far, and of one more
module _ (P : ℕ → Body → Type 0) (moved : List Body) where
  each_none : (who : ℕ) → who < 0 → P who (body_at moved who)
  each_none who h = absurd (omega arith)

  pub each_more : (count : ℕ) (body : Body) → length moved ≡ count → ((who : ℕ) → who < count → P who (body_at moved who)) → P count body
      → (who : ℕ) → who < count + 1 → P who (body_at (moved ++ body ∷ []) who)
  each_more count body e all here who h = ⊎_elim
      (λ less. rw (get_or_append_left moved (body ∷ []) no_body who (omega arith)) (all who less))
      (λ last. let same : count ≡ who = omega arith in subst (λ k. P k (body_at (moved ++ body ∷ []) k)) same (rw (get_or_push moved body no_body count e) here))
      (cases_lt who count)

module _ (scenario : Parts) (bodies : List Body) (valid : IsValid scenario) (full : length bodies ≡ length scenario.agents) where
  abbrev crowd : List Agent
  crowd = crowd_of scenario.agents bodies

  -- one body after the step, and the first of them
  abbrev MovesTo : ℕ → Body → Type 0
  MovesTo who body = IsMoved scenario crowd who (body_at bodies who) body

  abbrev AreMoved : List Body → ℕ → Type 0
  AreMoved moved count = (who : ℕ) → who < count → MovesTo who (body_at moved who)

  -- its radius is the one in the scenario
  some_radius : (who : ℕ) → who < length bodies → 1 ≤ (agent_at crowd who).radius
  some_radius who h =
      let here : who < length scenario.agents = omega (arith, full) in
      let same = ap (λ (agent : Agent). agent.radius) (agent_at-crowd_of scenario.agents bodies who here full) in
      omega (arith, same, (valid.agents who nobody here).build.some_radius)

  advice_of : (who : ℕ) → who < length bodies → HasAdvice scenario crowd who
  advice_of who h = some_advice scenario crowd who (soft_nonzero crowd who (some_radius who h))

  some_moved : (count : ℕ) → count ≤ length bodies → (moved : List Body) × (length moved ≡ count) × AreMoved moved count
  some_moved zero h = ([], refl, each_none MovesTo [])
  some_moved (suc count) h =
      let (moved, is, all) = some_moved count (omega arith) in
      let (vel, mark, relief, advice) = advice_of count (omega arith) in
      let body = moved_body vel mark relief (body_at bodies count) in
      let one : count + 1 ≡ suc count = omega arith in (
        moved ++ body ∷ [],
        length_push moved body ∙ ap (λ n. n + 1) is ∙ one,
        subst (AreMoved (moved ++ body ∷ [])) one (each_more MovesTo moved count body is all (record { agent = refl; pref = refl; advice = advice; pos = refl })),
      )

pub some_next : (scenario : Parts) (frame : Snapshot) (posts : List Post) → IsValid scenario → length frame.bodies ≡ length scenario.agents → frame.number < scenario.steps
    → (next : Snapshot) × IsNext scenario frame posts next
some_next scenario frame posts valid full below =
    let bodies = after_posts posts frame.bodies in
    let count : length bodies ≡ length frame.bodies = length-after_posts posts frame.bodies in
    let (moved, is, all) = some_moved scenario bodies valid (count ∙ full) (length frame.bodies) (omega (arith, count)) in
    (record { number = frame.number + 1; bodies = moved }, record { below = below; number = refl; bodies = is; moved = all })
