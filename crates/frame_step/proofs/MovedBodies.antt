-- The bodies of the next frame.
use Rattle.std.proofs.Common.{◌≡◌, ◌≢◌, ◌∙◌, ℕ, ◌<◌, ◌+◌, List, [], length, slice_index_or, slice_set, refl, sym, subst, arith}
use Rattle.std.proofs.lemmas.List.{get_or_default, get_or-set_same, get_or-set_other}
use native.Mathlib.Decide.{ℕ_discrete}
use mathlib.Core.Logic.{dite}
use Rattle.fixed_vec.specs.declared.vector.V2.{V2}
use Rattle.crowd_data.specs.declared.frame.Body.{Body}
use Rattle.crowd_data.specs.declared.frame.Mark.{Mark}
use Rattle.crowd_data.specs.declared.post.Post.{Post}
use Rattle.crowd_data.specs.Advice.{IsAdvice}
use Rattle.crowd_data.specs.Limits.{IsVelocity}
use Rattle.crowd_data.specs.Run.{IsNext, Snapshot, after_posts, body_at, moved_body, no_body}
use Rattle.crowd_data.specs.Scenario.{Parts}
use Rattle.crowd_data.proofs.Posts.{length-after_posts}
use Rattle.agent_step.specs.Frozen.{FrozenState, agents_in}
use Rattle.frame_step.specs.Moved.{AreAllMoved, KeepsMoved, MovesTo}

-- a body that takes the velocity, mark and relief of its advice, and moves by the velocity
pub body_moved : (state : FrozenState) (frame : Snapshot) (who : ℕ) (d body : Body) (vel : V2) (mark : Mark) (relief : ℕ) → state.frame ≡ frame → who < length frame.bodies
    → IsAdvice state.scenario (agents_in state) who vel mark relief → IsVelocity vel → body ≡ moved_body vel mark relief (slice_index_or frame.bodies who d)
    → MovesTo state who body
body_moved state frame who d body vel mark relief is h advice slow e =
    rw e (rw (get_or_default frame.bodies who d no_body h) (subst (λ (f : Snapshot). MovesTo state who (moved_body vel mark relief (body_at f.bodies who))) is
    (record { moved = record { agent = refl; pref = refl; advice = advice; pos = refl }; slow = slow })))

-- a body that is put in its place
module _ (state : FrozenState) (old : List Body) (who : ℕ) (body : Body) (h : who < length old) (moves : MovesTo state who body) where
  pub put_here : MovesTo state who (body_at (slice_set old who body) who)
  put_here = subst (MovesTo state who) (sym (get_or-set_same old who body no_body h)) moves

  pub put_keeps : KeepsMoved state old (slice_set old who body)
  put_keeps other was = dite (ℕ_discrete other who)
      (λ (e : other ≡ who). subst (λ n. MovesTo state n (body_at (slice_set old who body) n)) (sym e) put_here)
      (λ (ne : other ≢ who). subst (MovesTo state other) (sym (get_or-set_other old who other body no_body ne)) was)

-- a body that is put as it is in another list
pub put_same : (state : FrozenState) (old bodies new : List Body) (who : ℕ) (d : Body) → who < length old → who < length bodies → new ≡ slice_set old who (slice_index_or bodies who d)
    → MovesTo state who (body_at bodies who) → KeepsMoved state old new × MovesTo state who (body_at new who)
put_same state old bodies new who d inside there e moves =
    let body : MovesTo state who (slice_index_or bodies who d) = subst (MovesTo state who) (get_or_default bodies who no_body d there) moves in
    rw e (put_keeps state old who (slice_index_or bodies who d) inside body, put_here state old who (slice_index_or bodies who d) inside body)

-- all of them make the next frame
module _ (scenario : Parts) (frame : Snapshot) (bodies : List Body) (full : length frame.bodies ≡ length scenario.agents)
    (all : AreAllMoved (record { scenario = scenario; frame = frame }) bodies) where
  pub next_is : frame.number < scenario.steps → IsNext scenario frame [] (record { number = frame.number + 1; bodies = bodies })
  next_is below = record {
    below = below;
    number = refl;
    bodies = all.count ∙ sym full;
    moved = λ who h. (all.each who (omega (arith, all.count, full, h))).moved;
  }

-- posts are taken in before the step or with it
pub next_posted : (scenario : Parts) (frame : Snapshot) (posts : List Post) (next : Snapshot) → IsNext scenario (record frame { bodies = after_posts posts frame.bodies }) [] next → IsNext scenario frame posts next
next_posted scenario frame posts next step =
    let count = length-after_posts posts frame.bodies in
    record { below = step.below; number = step.number; bodies = step.bodies ∙ count; moved = λ who h. step.moved who (omega (arith, count, h)) }
