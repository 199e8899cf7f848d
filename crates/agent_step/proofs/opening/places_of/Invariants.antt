use Rattle.std.proofs.Common.{◌≡◌, ◌≤◌, ◌+◌, ◌++◌, drop, length, map}
use Rattle.crowd_data.specs.Advice.{place_of}
use Rattle.agent_step.proofs.opening.places_of.Given as goal

-- the places so far, those of the agents that are left, and room for these
abbrev pub invariant-loop-agent : goal.invariant-loop-agent
invariant-loop-agent l =
    (l.places.items ++ map place_of (drop l.agent-index l.agents) ≡ map place_of l.agents)
    × (length l.agents ≤ l.agent-index + l.places.spare)
