-- What `check` says of a scenario that is accepted.
use Rattle.std.specs.Prelude.{ℕ, List, ◌++◌, codes, decimal, length}
use Rattle.crowd_data.specs.Scenario.{Parts}

-- accepted,AGENTS,SEGMENTS,POSTS,GOALS,STEPS
unfoldable pub accepted_line : Parts → List ℕ
accepted_line s =
    codes "accepted," ++ decimal (length s.agents) ++ codes "," ++ decimal (length s.segments) ++ codes "," ++ decimal (length s.posts)
    ++ codes "," ++ decimal (length s.goals) ++ codes "," ++ decimal s.steps ++ codes "\n"
