-- What the laws of a step ask of its first frame: a body for each agent, with a velocity within its limits,
-- clear of every segment. Posts may ask for anything, so nothing is said of preferred velocities.
use Rattle.std.proofs.Common.{◌≡◌, length}
use Rattle.std.specs.List.{All}
use Rattle.crowd_data.specs.declared.frame.Body.{Body}
use Rattle.crowd_data.specs.Limits.{IsVelocity}
use Rattle.crowd_data.specs.Present.{IsPresent}
use Rattle.crowd_data.specs.Run.{Snapshot, start_of}
use Rattle.crowd_data.specs.SafeSteps.{ClearFrame}
use Rattle.crowd_data.specs.Scenario.{IsValid, Parts}
use Rattle.crowd_data.proofs.Frames.{start_present}

pub record IsSound (scenario : Parts) (frame : Snapshot) : Type 0 where
  pub full : length frame.bodies ≡ length scenario.agents
  pub slow : All (λ (body : Body). IsVelocity body.vel) frame.bodies
  pub clear : ClearFrame scenario frame

pub present_sound : (scenario : Parts) (frame : Snapshot) → IsPresent scenario frame → IsSound scenario frame
present_sound scenario frame present = record { full = present.full; slow = λ who d h. (present.bodies who d h).vel; clear = present.clear }

pub start_sound : (scenario : Parts) → IsValid scenario → IsSound scenario (start_of scenario)
start_sound scenario valid = present_sound scenario (start_of scenario) (start_present scenario valid)
