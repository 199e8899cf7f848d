-- A whole step: posts are taken in, all agents' bodies move, and what comes of it is the next frame.
use Rattle.std.proofs.Common.{◌≡◌, ◌<◌, ◌+◌, List, [], length, sym, subst}
use Rattle.std.specs.List.{All}
use Rattle.crowd_data.specs.declared.frame.Body.{Body}
use Rattle.crowd_data.specs.declared.post.Post.{Post}
use Rattle.crowd_data.specs.Limits.{IsPost}
use Rattle.crowd_data.specs.Present.{IsPresent}
use Rattle.crowd_data.specs.Run.{IsNext, Snapshot, after_posts}
use Rattle.crowd_data.specs.SafeSteps.{IsSafeStep}
use Rattle.crowd_data.specs.Scenario.{IsValid, Parts}
use Rattle.crowd_data.proofs.Frames.{posted_present}
use Rattle.run_law.specs.Laws.{EveryStepIsSafe}
use Rattle.run_law.proofs.PresentNext.{step_present}
use Rattle.frame_step.specs.Moved.{AreAllMoved}
use Rattle.frame_step.proofs.MovedBodies.{next_is, next_posted}

module _ (scenario : Parts) (frame : Snapshot) (posts : List Post) (bodies : List Body) (valid : IsValid scenario) (present : IsPresent scenario frame)
    (sound : All (IsPost (length scenario.agents)) posts) (taken : bodies ≡ after_posts posts frame.bodies) where
  -- the frame that all advice is taken from
  abbrev pub frozen : Snapshot
  frozen = record { number = frame.number; bodies = bodies }

  pub frozen_present : IsPresent scenario frozen
  frozen_present = subst (λ (b : List Body). IsPresent scenario (record { number = frame.number; bodies = b })) (sym taken) (posted_present scenario frame posts present sound)

  module _ (below : frame.number < scenario.steps) (new : List Body) (moved : AreAllMoved (record { scenario = scenario; frame = frozen }) new) where
    abbrev pub made : Snapshot
    made = record { number = frame.number + 1; bodies = new }

    frozen_step : IsNext scenario frozen [] made
    frozen_step = next_is scenario frozen new frozen_present.full moved below

    pub made_next : IsNext scenario frame posts made
    made_next =
        next_posted scenario frame posts made
        (subst (λ (b : List Body). IsNext scenario (record { number = frame.number; bodies = b }) [] made) taken frozen_step)

    pub made_present : IsPresent scenario made
    made_present = step_present scenario valid frame made posts present sound made_next

    pub made_safe : EveryStepIsSafe scenario → IsSafeStep scenario frame made
    made_safe law = law frame made posts present made_next
