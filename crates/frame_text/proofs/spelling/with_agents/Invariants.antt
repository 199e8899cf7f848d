use Rattle.std.proofs.Common.{◌≡◌, map, drop}
use Rattle.frame_text.specs.Lines.{agent_line}
use Rattle.frame_text.specs.Spelling.{IsPlace, with_lines}
use Rattle.frame_text.proofs.spelling.with_agents.Given as goal

-- the lines that are left make of the comparison what all make of its start
abbrev pub invariant-loop-agent : goal.invariant-loop-agent
invariant-loop-agent l = (with_lines l.fn.bytes l.compared (map (agent_line l.fn.version) (drop l.agent-index l.agents)) ≡ with_lines l.fn.bytes l.fn.so_far (map (agent_line l.fn.version) l.agents))
    × IsPlace l.fn.bytes l.compared
