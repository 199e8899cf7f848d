-- The laws of steps and runs, as statements.
use Rattle.std.specs.Prelude.{◌≡◌, ℕ, ◌<◌, List}
use Rattle.fixed_vec.specs.declared.vector.V2.{V2}
use Rattle.crowd_data.specs.declared.agent.Agent.{Agent}
use Rattle.crowd_data.specs.declared.frame.Mark.{Mark}
use Rattle.crowd_data.specs.declared.post.Post.{Post}
use Rattle.crowd_data.specs.Advice.{IsAdvice}
use Rattle.crowd_data.specs.Present.{IsPresent}
use Rattle.crowd_data.specs.Run.{IsNext, IsRun, Snapshot}
use Rattle.crowd_data.specs.SafeSteps.{IsSafeRun, IsSafeStep}
use Rattle.crowd_data.specs.Scenario.{Parts}

-- each step from a present frame is safe, whatever is posted
abbrev pub EveryStepIsSafe : Parts → Type 0
EveryStepIsSafe scenario = (frame next : Snapshot) → (posts : List Post) → IsPresent scenario frame → IsNext scenario frame posts next → IsSafeStep scenario frame next

-- so is each run
abbrev pub EveryRunIsSafe : Parts → Type 0
EveryRunIsSafe scenario = (lists : List (List Post)) → (frames : List Snapshot) → IsRun scenario lists frames → IsSafeRun scenario frames

-- each present frame with a step left has a next one, whatever is posted
abbrev pub NextExists : Parts → Type 0
NextExists scenario = (frame : Snapshot) → (posts : List Post) → IsPresent scenario frame → frame.number < scenario.steps → (next : Snapshot) × IsNext scenario frame posts next

-- an agent of a crowd has one advice
abbrev pub OneAdvice : Parts → Type 0
OneAdvice scenario = (crowd : List Agent) → (who : ℕ) → (vel other_vel : V2) → (mark other_mark : Mark) → (relief other : ℕ)
    → IsAdvice scenario crowd who vel mark relief → IsAdvice scenario crowd who other_vel other_mark other
    → (vel ≡ other_vel) × (mark ≡ other_mark) × (relief ≡ other)

-- a frame has one next frame for a list of posts
abbrev pub OneNext : Parts → Type 0
OneNext scenario = (frame next other : Snapshot) → (posts : List Post) → IsNext scenario frame posts next → IsNext scenario frame posts other → next ≡ other

-- and the scenario one run for lists of posts
abbrev pub OneRun : Parts → Type 0
OneRun scenario = (lists : List (List Post)) → (frames others : List Snapshot) → IsRun scenario lists frames → IsRun scenario lists others → frames ≡ others
