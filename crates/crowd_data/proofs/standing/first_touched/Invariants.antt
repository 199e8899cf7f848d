use Rattle.std.proofs.Common.{All, take}
use Rattle.crowd_data.specs.Walls.{IsClear}
use Rattle.crowd_data.proofs.standing.first_touched.Given as goal

-- the agent is clear of the segments so far
abbrev pub invariant-loop-which : goal.invariant-loop-which
invariant-loop-which l = All (IsClear l.agent.pos l.agent.radius) (take l.which l.segments)
