-- What was read so far. There is no version before the header.
use Rattle.std.specs.Prelude.{◌≤◌, ℕ, List, [], None}
use Rattle.std.specs.declared.option.Option.{Option}
use Rattle.crowd_data.specs.declared.agent.Agent.{Agent}
use Rattle.crowd_data.specs.declared.segment.Segment.{Segment}
use Rattle.crowd_data.specs.declared.post.ScriptPost.{ScriptPost}
use Rattle.crowd_data.specs.declared.post.Goal.{Goal}
use Rattle.crowd_data.specs.declared.limits.TheConstants.{FIRST_VERSION, LATEST_VERSION}

-- a version that is known
abbrev pub IsKnown : ℕ → Type 0
IsKnown version = (FIRST_VERSION ≤ version) × (version ≤ LATEST_VERSION)

pub record Read : Type 0 where
  pub version : Option ℕ
  pub ring : Option ℕ
  pub steps : Option ℕ
  pub agents : List Agent
  pub segments : List Segment
  pub posts : List ScriptPost
  pub goals : List Goal

abbrev pub nothing_read : Read
nothing_read = record { version = None; ring = None; steps = None; agents = []; segments = []; posts = []; goals = [] }
