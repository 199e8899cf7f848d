-- The bodies of agents after a step, and those of the agents of a piece.
use Rattle.std.specs.Prelude.{◌≡◌, ℕ, ◌+◌, ◌*◌, ◌/◌, ◌<◌, ◌≤◌, List, length}
use Rattle.crowd_data.specs.declared.frame.Body.{Body}
use Rattle.crowd_data.specs.declared.limits.TheConstants.{MOST_STEPS}
use Rattle.crowd_data.specs.Limits.{IsVelocity}
use Rattle.crowd_data.specs.Present.{IsPresent}
use Rattle.crowd_data.specs.Run.{IsMoved, Snapshot, body_at, crowd_of}
use Rattle.agent_step.specs.Frozen.{FrozenState}
use Rattle.work_claim.specs.Counts.{occurrences}

-- how many agents make a piece; the last piece may have fewer
abbrev pub agents_per_piece : ℕ
agents_per_piece = 32

-- a step may be made from this frame, of which the state is the frozen one
pub record MayStep (state : FrozenState) (frame : Snapshot) : Type 0 where
  pub frame_is : state.frame ≡ frame
  pub present : IsPresent state.scenario frame
  pub below : frame.number < state.scenario.steps
  pub few : state.scenario.steps ≤ MOST_STEPS

-- an agent's body after the step from a frame whose posts are taken in, with a velocity within its limits
pub record MovesTo (state : FrozenState) (who : ℕ) (body : Body) : Type 0 where
  pub moved : IsMoved state.scenario (crowd_of state.scenario.agents state.frame.bodies) who (body_at state.frame.bodies who) body
  pub slow : IsVelocity body.vel

-- the bodies of a piece's agents are those after the step
abbrev pub IsPieceMoved : FrozenState → List Body → ℕ → Type 0
IsPieceMoved state bodies piece =
    (who : ℕ) → piece * agents_per_piece ≤ who → who < piece * agents_per_piece + agents_per_piece → who < length bodies → MovesTo state who (body_at bodies who)

-- so are those of all agents of the pieces in a list
abbrev pub CoversMoved : FrozenState → List ℕ → List Body → Type 0
CoversMoved state pieces bodies = (who : ℕ) → who < length bodies → 0 < occurrences (who / agents_per_piece) pieces → MovesTo state who (body_at bodies who)

-- each body that is one after the step stays so
abbrev pub KeepsMoved : FrozenState → List Body → List Body → Type 0
KeepsMoved state old new = (who : ℕ) → MovesTo state who (body_at old who) → MovesTo state who (body_at new who)

-- all bodies are those after the step
pub record AreAllMoved (state : FrozenState) (bodies : List Body) : Type 0 where
  pub count : length bodies ≡ length state.scenario.agents
  pub each : (who : ℕ) → who < length bodies → MovesTo state who (body_at bodies who)
