use Rattle.std.proofs.Common.{arith}
use Rattle.std.proofs.lemmas.List.{get_or_default}
use Rattle.std.proofs.lemmas.Result.{err_from_is_err_and}
use Rattle.std.proofs.KnownBytes.{Appends-trans}
use Rattle.frame_text.specs.Lines.{agent_line}
use Rattle.frame_text.proofs.LinesSoFar.{more_lines, prefix_lines}
use Rattle.frame_text.proofs.transcript.write_agents.Goals as goal

pub loop-agent-preserved : goal.loop-agent-preserved
loop-agent-preserved g c =
    let (done, whole, held, later) = c.loop-agent.invariant in
    let wrote = c.in_ok-write_agent.ensures in
    (_, more_lines (agent_line c.args.version) c.args.agents.now c.loop-agent.agent-index _ (get_or_default c.args.agents.now c.loop-agent.agent-index _ _ c.loop-agent-test.true) c.loop-agent-test.true done whole, Appends-trans _ _ _ _ _ held wrote.text, omega (arith, wrote.cause.later))

pub returns-in_err-write_agent-clause-text : goal.returns-in_err-write_agent-clause-text
returns-in_err-write_agent-clause-text g c =
    let (done, whole, held, later) = c.loop-agent.invariant in
    let p = err_from_is_err_and c.from_residual.result c.from_residual.ensures.1 in
    rw p.1 (prefix_lines (agent_line c.args.version) c.args.agents.now c.loop-agent.agent-index _ (get_or_default c.args.agents.now c.loop-agent.agent-index _ _ c.loop-agent-test.true) c.loop-agent-test.true _ _ _ done whole held c.in_err-write_agent.ensures.text)
