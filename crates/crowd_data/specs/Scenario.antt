-- A scenario: its parts, and when they are valid.
use Rattle.std.specs.Prelude.{◌≡◌, ◌≢◌, ℕ, ◌+◌, ◌≤◌, max, List, [], ◌∷◌, length, AllPairs}
use Rattle.std.specs.List.{All}
use Rattle.crowd_data.specs.declared.agent.Agent.{Agent}
use Rattle.crowd_data.specs.declared.segment.Segment.{Segment}
use Rattle.crowd_data.specs.declared.post.ScriptPost.{ScriptPost}
use Rattle.crowd_data.specs.declared.post.Goal.{Goal}
use Rattle.crowd_data.specs.Limits.{IsAgent, IsGoal, IsRing, IsScriptPost, IsSegment, IsVersion, plain_ring}
use Rattle.crowd_data.specs.Walls.{IsClear}
use Rattle.crowd_data.specs.declared.limits.TheConstants.{MOST_AGENTS, MOST_POSTS, MOST_SEGMENTS, MOST_STEPS}

-- what a scenario consists of
pub record Parts : Type 0 where
  pub version : ℕ
  pub ring : ℕ
  pub steps : ℕ
  pub agents : List Agent
  pub segments : List Segment
  pub posts : List ScriptPost
  pub goals : List Goal

-- what version 1 knows of: the plain ring, and no weight but 1
pub record HasPlainParts (ring : ℕ) (agents : List Agent) : Type 0 where
  pub ring_is : ring ≡ plain_ring
  pub weights : All (λ (agent : Agent). agent.weight ≡ 1) agents

-- the parts make up a scenario: every number and count is within its limits, version 1 has nothing that is
-- new in version 2, frames of posts never fall, agents that are named exist, no agent has two goals, and
-- every agent is clear of every segment
pub record IsValid (s : Parts) : Type 0 where
  pub version : IsVersion s.version
  pub ring : IsRing s.ring
  pub plain : s.version ≡ 1 → HasPlainParts s.ring s.agents
  pub steps : s.steps ≤ MOST_STEPS
  pub agent_count : length s.agents ≤ MOST_AGENTS
  pub segment_count : length s.segments ≤ MOST_SEGMENTS
  pub post_count : length s.posts ≤ MOST_POSTS
  pub agents : All IsAgent s.agents
  pub segments : All IsSegment s.segments
  pub posts : All (IsScriptPost s.steps (length s.agents)) s.posts
  pub post_order : AllPairs (λ (p : ScriptPost) (q : ScriptPost). p.frame ≤ q.frame) s.posts
  pub goals : All (IsGoal (length s.agents)) s.goals
  pub one_goal : AllPairs (λ (g : Goal) (h : Goal). g.agent ≢ h.agent) s.goals
  pub clear : All (λ (agent : Agent). All (IsClear agent.pos agent.radius) s.segments) s.agents

-- one more than the greatest controller number among the goals, or 0 without goals
abbrev pub controllers_of : List Goal → ℕ
controllers_of [] = 0
controllers_of (goal ∷ rest) = max (goal.controller + 1) (controllers_of rest)
