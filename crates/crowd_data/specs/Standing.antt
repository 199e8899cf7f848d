-- Which agent stands on which segment.
use Rattle.std.specs.Prelude.{◌≡◌, ℕ, List, Some, slice_get, take, All}
use Rattle.crowd_data.specs.declared.agent.Agent.{Agent}
use Rattle.crowd_data.specs.declared.segment.Segment.{Segment}
use Rattle.crowd_data.specs.Walls.{IsClear}

-- every agent is clear of every segment
abbrev pub AllClear : List Agent → List Segment → Type 0
AllClear agents segments = All (λ (agent : Agent). All (IsClear agent.pos agent.radius) segments) agents

-- an agent isn't clear of a segment; it is the least such agent, and for it the least such segment
pub record OnSegment (agents : List Agent) (segments : List Segment) (who which : ℕ) : Type 0 where
  pub agent : Agent
  pub segment : Segment
  pub agent_is : slice_get agents who ≡ Some agent
  pub segment_is : slice_get segments which ≡ Some segment
  pub touched : ¬ IsClear agent.pos agent.radius segment
  pub least_segment : All (IsClear agent.pos agent.radius) (take which segments)
  pub least_agent : AllClear (take who agents) segments
