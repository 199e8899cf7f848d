-- What holds of every frame of a run.
use Rattle.std.specs.Prelude.{◌≡◌, ℕ, ◌+◌, ◌*◌, ◌<◌, ◌≤◌, List, length}
use Rattle.std.specs.List.{All}
use Rattle.crowd_data.specs.declared.frame.Body.{Body}
use Rattle.crowd_data.specs.Limits.{IsVelocity, IsWithin}
use Rattle.crowd_data.specs.Run.{Snapshot, body_at}
use Rattle.crowd_data.specs.SafeSteps.{ClearFrame}
use Rattle.crowd_data.specs.Scenario.{Parts}
use Rattle.crowd_data.specs.declared.limits.TheConstants.{GREATEST_COORDINATE, GREATEST_SPEED}

-- a body after so many steps: how far it can have come, and how fast it moves and wants to move
pub record IsBody (number : ℕ) (body : Body) : Type 0 where
  pub pos : IsWithin body.pos (GREATEST_COORDINATE + GREATEST_SPEED * number)
  pub vel : IsVelocity body.vel
  pub pref : IsVelocity body.pref

-- bodies stand in order of agent number, from 0
abbrev pub AreNumbered : List Body → Type 0
AreNumbered bodies = (who : ℕ) → who < length bodies → (body_at bodies who).agent ≡ who

-- a frame of a scenario's run: one body for each agent in order of number, each within its limits and
-- clear of every segment
pub record IsPresent (scenario : Parts) (frame : Snapshot) : Type 0 where
  pub number : frame.number ≤ scenario.steps
  pub full : length frame.bodies ≡ length scenario.agents
  pub numbered : AreNumbered frame.bodies
  pub bodies : All (IsBody frame.number) frame.bodies
  pub clear : ClearFrame scenario frame
