-- What is safe about a step from a frame to the next: for the positions of the first, and the velocities
-- and marks of the second.
use Rattle.std.specs.Prelude.{◌≡◌, ◌≢◌, ℕ, ◌+◌, ◌<◌, ℤ, pos, ◌*ℤ◌, ◌≤ℤ◌, min, List, [], ◌∷◌, length, Contains}
use Rattle.std.specs.List.{All}
use Rattle.fixed_vec.specs.declared.vector.V2.{V2}
use Rattle.fixed_vec.specs.Vector.{square, times}
use Rattle.crowd_data.specs.declared.segment.Segment.{Segment}
use Rattle.crowd_data.specs.declared.frame.Mark.TheVariants.{Feasible}
use Rattle.crowd_data.specs.Advice.{agent_at, neighbours_of, place_of}
use Rattle.crowd_data.specs.Neighbours.{IsNear}
use Rattle.crowd_data.specs.Run.{Snapshot, body_at, crowd_of}
use Rattle.crowd_data.specs.Safety.{ApartThroughout, IsApart, OffThroughout}
use Rattle.crowd_data.specs.Scenario.{Parts}
use Rattle.crowd_data.specs.Walls.{IsClear}

-- where an agent is in a frame, and with which velocity it moves on to the next
abbrev pub at_in : Snapshot → ℕ → V2
at_in frame who = (body_at frame.bodies who).pos

abbrev pub vel_in : Snapshot → ℕ → V2
vel_in next who = (body_at next.bodies who).vel

-- every body of a frame is clear of every segment
abbrev pub ClearFrame : Parts → Snapshot → Type 0
ClearFrame scenario frame = (who : ℕ) → who < length scenario.agents
    → All (IsClear (at_in frame who) (agent_at scenario.agents who).radius) scenario.segments

-- no velocity is longer than the agent's speed
abbrev pub KeepsSpeed : Parts → Snapshot → Type 0
KeepsSpeed scenario next = (who : ℕ) → who < length scenario.agents
    → square (vel_in next who) ≤ℤ (pos (agent_at scenario.agents who).speed *ℤ pos (agent_at scenario.agents who).speed)

-- every disc stays off every segment throughout the step, and throughout its wall horizon, whatever its mark
abbrev pub StaysOff : Parts → Snapshot → Snapshot → Type 0
StaysOff scenario frame next = (who : ℕ) → who < length scenario.agents
    → All
    (λ (segment : Segment).
    OffThroughout (at_in frame who) (vel_in next who) (agent_at scenario.agents who).radius segment
    × OffThroughout (at_in frame who) (times (pos (agent_at scenario.agents who).wall_horizon) (vel_in next who)) (agent_at scenario.agents who).radius segment)
    scenario.segments

-- ---- two agents

-- the sum of two agents' radii
abbrev pub radii : Parts → ℕ → ℕ → ℤ
radii scenario a b = pos ((agent_at scenario.agents a).radius + (agent_at scenario.agents b).radius)

-- both are marked feasible
abbrev pub BothFeasible : Snapshot → ℕ → ℕ → Type 0
BothFeasible next a b = ((body_at next.bodies a).mark ≡ Feasible) × ((body_at next.bodies b).mark ≡ Feasible)

abbrev pub AreApart : Parts → Snapshot → ℕ → ℕ → Type 0
AreApart scenario frame a b = IsApart (at_in frame a) (at_in frame b) (radii scenario a b)

-- apart throughout so many steps with these velocities
abbrev pub StayApart : Parts → Snapshot → Snapshot → ℕ → ℕ → ℕ → Type 0
StayApart scenario frame next steps a b =
    ApartThroughout (at_in frame a) (times (pos steps) (vel_in next a)) (at_in frame b) (times (pos steps) (vel_in next b)) (radii scenario a b)

-- the agents as they stand in the frame
abbrev pub AreNear : Parts → Snapshot → ℕ → ℕ → Type 0
AreNear scenario frame a b =
    IsNear (place_of (agent_at (crowd_of scenario.agents frame.bodies) a)) (place_of (agent_at (crowd_of scenario.agents frame.bodies) b))

-- each is among the other's neighbours
abbrev pub SeeEachOther : Parts → Snapshot → ℕ → ℕ → Type 0
SeeEachOther scenario frame a b =
    Contains (neighbours_of (crowd_of scenario.agents frame.bodies) a) b × Contains (neighbours_of (crowd_of scenario.agents frame.bodies) b) a

-- what holds of two different agents
pub record KeepsApart (scenario : Parts) (frame next : Snapshot) (a b : ℕ) : Type 0 where
  -- two discs that are apart, both marked feasible, stay apart throughout the step
  pub pairs : AreApart scenario frame a b → BothFeasible next a b → StayApart scenario frame next 1 a b
  -- two discs that aren't apart, both marked feasible, are apart at the end of the step
  pub overlapping : ¬ AreApart scenario frame a b → BothFeasible next a b → AreApart scenario next a b
  -- two discs that aren't near stay apart throughout the step, whatever their marks
  pub far : ¬ AreNear scenario frame a b → StayApart scenario frame next 1 a b
  -- two neighbours that are apart, both marked feasible, would stay apart throughout the smaller horizon
  pub horizon : AreApart scenario frame a b → BothFeasible next a b → SeeEachOther scenario frame a b
      → StayApart scenario frame next (min (agent_at scenario.agents a).horizon (agent_at scenario.agents b).horizon) a b

abbrev pub PairsKeepApart : Parts → Snapshot → Snapshot → Type 0
PairsKeepApart scenario frame next =
    (a b : ℕ) → a < length scenario.agents → b < length scenario.agents → a ≢ b → KeepsApart scenario frame next a b

-- ---- runs

-- something holds of each frame and the next
abbrev pub EachStep : (Snapshot → Snapshot → Type 0) → List Snapshot → Type 0
EachStep P [] = Unit {0}
EachStep P (frame ∷ []) = Unit {0}
EachStep P (frame ∷ next ∷ rest) = P frame next × EachStep P (next ∷ rest)

-- a safe step: no disc cuts a segment, no velocity is longer than its agent's speed, and discs keep apart
pub record IsSafeStep (scenario : Parts) (frame next : Snapshot) : Type 0 where
  pub clear : ClearFrame scenario next
  pub off : StaysOff scenario frame next
  pub speed : KeepsSpeed scenario next
  pub apart : PairsKeepApart scenario frame next

-- a safe run: every body of every frame is clear of every segment, and each step is safe
pub record IsSafeRun (scenario : Parts) (frames : List Snapshot) : Type 0 where
  pub clear : All (ClearFrame scenario) frames
  pub steps : EachStep (IsSafeStep scenario) frames
