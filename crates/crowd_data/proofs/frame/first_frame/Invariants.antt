use Rattle.std.proofs.Common.{◌≡◌, ◌+◌, ◌≤◌, ◌++◌, drop, length}
use Rattle.crowd_data.specs.Run.{starting_bodies}
use Rattle.crowd_data.proofs.frame.first_frame.Given as goal

-- the bodies made so far, and those of the agents that are left, are those of frame 0
abbrev pub invariant-loop-number : goal.invariant-loop-number
invariant-loop-number l =
    (l.bodies.items ++ starting_bodies l.number (drop l.number l.agents) ≡ starting_bodies 0 l.agents)
    × (length l.agents ≤ l.number + l.bodies.spare)
