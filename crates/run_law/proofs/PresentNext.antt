-- The next frame of one that is present is present, where posts are within their limits.
use Rattle.std.proofs.Common.{◌∙◌, ◌<◌, ◌+◌, ◌*◌, ℕ, List, length, subst, sym, arith}
use Rattle.std.specs.List.{All}
use Rattle.std.proofs.lemmas.Int.{ints}
use Rattle.std.proofs.lemmas.List.Elements.{All-from_get_or}
use Rattle.fixed_vec.specs.declared.vector.V2.{V2}
use Rattle.fixed_vec.specs.Vector.{plus}
use Rattle.crowd_data.specs.declared.post.Post.{Post}
use Rattle.crowd_data.specs.Limits.{IsPost, IsVelocity, IsWithin}
use Rattle.crowd_data.specs.Present.{IsBody, IsPresent}
use Rattle.crowd_data.specs.Run.{IsNext, Snapshot, after_posts, body_at, no_body}
use Rattle.crowd_data.specs.Scenario.{IsValid, Parts}
use Rattle.crowd_data.proofs.Frames.{posted_present}
use Rattle.crowd_data.proofs.Posts.{agent-after_posts}
use Rattle.crowd_data.specs.declared.limits.TheConstants.{GREATEST_COORDINATE, GREATEST_SPEED}
use Rattle.run_law.proofs.Runs.{step_slow, step_sound}
use Rattle.run_law.proofs.Sound.{present_sound}

-- a step from within so many units with a velocity ends within one step more
stepped_within : (at vel : V2) (number : ℕ) → IsWithin at (GREATEST_COORDINATE + GREATEST_SPEED * number) → IsVelocity vel → IsWithin (plus at vel) (GREATEST_COORDINATE + GREATEST_SPEED * (number + 1))
stepped_within at vel number within slow = (omega (arith, ints, within, slow), omega (arith, ints, within, slow))

module _ (scenario : Parts) (valid : IsValid scenario) (frame next : Snapshot) (posts : List Post) (present : IsPresent scenario frame)
    (sound : All (IsPost (length scenario.agents)) posts) (step : IsNext scenario frame posts next) where
  next_body : (who : ℕ) → who < length next.bodies → IsBody next.number (body_at next.bodies who)
  next_body who h =
      let below : who < length frame.bodies = omega (arith, h, step.bodies) in
      let moved = step.moved who below in
      let posted = posted_present scenario frame posts present sound in
      let before = posted.bodies who no_body (omega (arith, below, posted.full, present.full)) in
      let vel = step_slow scenario valid frame next posts (present_sound scenario frame present) step who h in
      record {
        pos =
            subst (λ at. IsWithin at (GREATEST_COORDINATE + GREATEST_SPEED * next.number)) (sym moved.pos)
            (subst (λ n. IsWithin (plus (body_at (after_posts posts frame.bodies) who).pos (body_at next.bodies who).vel) (GREATEST_COORDINATE + GREATEST_SPEED * n)) (sym step.number)
            (stepped_within (body_at (after_posts posts frame.bodies) who).pos (body_at next.bodies who).vel frame.number before.pos vel));
        vel = vel;
        pref = subst IsVelocity (sym moved.pref) before.pref;
      }

  pub step_present : IsPresent scenario next
  step_present = record {
    number = omega (arith, step.below, step.number);
    full = step.bodies ∙ present.full;
    numbered = λ who h.
        let below : who < length frame.bodies = omega (arith, h, step.bodies) in
        (step.moved who below).agent ∙ agent-after_posts who posts frame.bodies ∙ present.numbered who below;
    bodies = All-from_get_or (IsBody next.number) next.bodies no_body next_body;
    clear = (step_sound scenario valid frame next posts (present_sound scenario frame present) step).clear;
  }
