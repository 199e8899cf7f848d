use Rattle.std.proofs.Common.{◌≡◌, ◌≤◌, ◌+◌, ◌++◌, map, length, drop}
use Rattle.crowd_data.specs.Advice.{place_of}
use Rattle.crowd_data.specs.Run.{crowd_of}
use Rattle.frame_step.proofs.places.place_all.Given as goal

-- the places so far, and those of the agents that are left
abbrev pub invariant-loop-who : goal.invariant-loop-who
invariant-loop-who l =
    (l.places.items ++ map place_of (crowd_of (drop l.who l.agents) (drop l.who l.bodies)) ≡ map place_of (crowd_of l.agents l.bodies))
    × (length l.places.items ≡ l.who)
    × (length l.agents ≤ l.who + l.places.spare)
