-- Every step from a sound frame is safe and leads to a sound frame, and so every run is safe.
use Rattle.std.proofs.Common.{◌∙◌, ◌<◌, List, [], ◌∷◌, length, sym, subst, arith, ℕ}
use Rattle.std.proofs.lemmas.List.Elements.{All-cons, All-from_get_or, All-nil}
use Rattle.crowd_data.specs.declared.frame.Body.{Body}
use Rattle.crowd_data.specs.declared.post.Post.{Post}
use Rattle.crowd_data.specs.Advice.{nobody}
use Rattle.crowd_data.specs.Limits.{IsVelocity}
use Rattle.crowd_data.specs.Run.{Follow, IsNext, IsRun, Snapshot, no_body}
use Rattle.crowd_data.specs.SafeSteps.{ClearFrame, IsSafeRun, IsSafeStep, vel_in}
use Rattle.crowd_data.specs.Scenario.{IsValid, Parts}
use Rattle.run_law.proofs.OffWalls.{step_clear, step_off}
use Rattle.run_law.proofs.PairSteps.{pairs_keep_apart, slow}
use Rattle.run_law.proofs.Sizes.{slow_velocity}
use Rattle.run_law.proofs.Sound.{IsSound, start_sound}

-- ---- one step

module _ (scenario : Parts) (valid : IsValid scenario) (frame next : Snapshot) (posts : List Post) (sound : IsSound scenario frame) (step : IsNext scenario frame posts next) where
  pub step_safe : IsSafeStep scenario frame next
  step_safe = record {
    clear = step_clear scenario valid frame next posts sound step;
    off = step_off scenario valid frame next posts sound step;
    speed = slow scenario frame posts next valid sound step;
    apart = pairs_keep_apart scenario frame next posts valid sound step;
  }

  pub step_slow : (who : ℕ) → who < length next.bodies → IsVelocity (vel_in next who)
  step_slow who h =
      let below : who < length scenario.agents = omega (arith, step.bodies, sound.full) in
      slow_velocity (vel_in next who) _ (slow scenario frame posts next valid sound step who below) (valid.agents who nobody below).build.speed

  pub step_sound : IsSound scenario next
  step_sound = record {
    full = step.bodies ∙ sound.full;
    slow = All-from_get_or (λ (body : Body). IsVelocity body.vel) next.bodies no_body step_slow;
    clear = step_clear scenario valid frame next posts sound step;
  }

-- ---- runs

-- what each step hands on holds all along
follow_safe : (scenario : Parts) → IsValid scenario → (frame : Snapshot) (lists : List (List Post)) (rest : List Snapshot) → IsSound scenario frame → Follow scenario frame lists rest
    → IsSafeRun scenario (frame ∷ rest)
follow_safe scenario valid frame [] [] sound follow = record { clear = All-cons (ClearFrame scenario) frame [] sound.clear (All-nil (ClearFrame scenario)); steps = tt }
follow_safe scenario valid frame [] (next ∷ rest) sound follow = absurd follow
follow_safe scenario valid frame (posts ∷ lists) [] sound follow = absurd follow
follow_safe scenario valid frame (posts ∷ lists) (next ∷ rest) sound follow =
    let more = follow_safe scenario valid next lists rest (step_sound scenario valid frame next posts sound follow.0) follow.1 in
    record {
      clear = All-cons (ClearFrame scenario) frame (next ∷ rest) sound.clear more.clear;
      steps = (step_safe scenario valid frame next posts sound follow.0, more.steps);
    }

pub run_safe : (scenario : Parts) → IsValid scenario → (lists : List (List Post)) (frames : List Snapshot) → IsRun scenario lists frames → IsSafeRun scenario frames
run_safe scenario valid lists [] run = absurd run
run_safe scenario valid lists (first ∷ rest) run = follow_safe scenario valid first lists rest (subst (IsSound scenario) (sym run.0) (start_sound scenario valid)) run.1
