use Rattle.std.proofs.Common.{◌≡◌, ◌≤◌, ◌++◌, List, ℕ, drop, flat_map}
use Rattle.std.specs.Io.KnownBytes.{Appends}
use Rattle.frame_text.specs.Lines.{agent_line}
use Rattle.frame_text.proofs.transcript.write_agents.Given as goal

-- the lines so far, and those of the agents that are left, are the whole text
abbrev pub invariant-loop-agent : goal.invariant-loop-agent
invariant-loop-agent g l = (done : List ℕ) × (flat_map (agent_line l.version) l.agents ≡ done ++ flat_map (agent_line l.version) (drop l.agent-index l.agents))
    × Appends (g.T.Sink.held l.fn.out) (g.T.Sink.held l.out) done
    × (g.T.Sink.faults l.fn.out ≤ g.T.Sink.faults l.out)
