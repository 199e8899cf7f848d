use Rattle.std.proofs.lemmas.Result.{err_from_is_err_and}
use Rattle.std.proofs.KnownBytes.{Appends-trans}
use Rattle.outside_io.proofs.WroteLemmas.{prefix_longer, prefix_then, wrote_then}
use Rattle.frame_text.proofs.transcript.write_scenario.Goals as goal

pub returns-in_err-write_head-clause-text : goal.returns-in_err-write_head-clause-text
returns-in_err-write_head-clause-text g c =
    let p = err_from_is_err_and c.from_residual.result c.from_residual.ensures.1 in
    rw p.1 (prefix_longer _ _ _ _ (prefix_longer _ _ _ _ (prefix_longer _ _ _ _ (prefix_longer _ _ _ _ c.in_err-write_head.ensures.text))))

pub returns-in_err-write_agents-clause-text : goal.returns-in_err-write_agents-clause-text
returns-in_err-write_agents-clause-text g c =
    let p = err_from_is_err_and c.from_residual-in_err-write_agents.result c.from_residual-in_err-write_agents.ensures.1 in
    rw p.1 (prefix_longer _ _ _ _ (prefix_longer _ _ _ _ (prefix_longer _ _ _ _ (prefix_then _ _ _ _ _ c.in_ok-write_head.ensures.text (rw (c.version.ensures.value, c.agents.ensures.value) at c.in_err-write_agents.ensures.text)))))

pub returns-in_err-write_lines-clause-text : goal.returns-in_err-write_lines-clause-text
returns-in_err-write_lines-clause-text g c =
    let p = err_from_is_err_and c.from_residual-in_err-write_lines.result c.from_residual-in_err-write_lines.ensures.1 in
    rw p.1 (prefix_longer _ _ _ _ (prefix_longer _ _ _ _ (prefix_then _ _ _ _ _ (Appends-trans _ _ _ _ _ c.in_ok-write_head.ensures.text (rw (c.version.ensures.value, c.agents.ensures.value) at c.in_ok-write_agents.ensures.text)) (rw c.segments.ensures.value at c.in_err-write_lines.ensures.text))))

pub returns-in_err-write_lines-2-clause-text : goal.returns-in_err-write_lines-2-clause-text
returns-in_err-write_lines-2-clause-text g c =
    let p = err_from_is_err_and c.from_residual-in_err-write_lines-2.result c.from_residual-in_err-write_lines-2.ensures.1 in
    rw p.1 (prefix_longer _ _ _ _ (prefix_then _ _ _ _ _ (Appends-trans _ _ _ _ _ (Appends-trans _ _ _ _ _ c.in_ok-write_head.ensures.text (rw (c.version.ensures.value, c.agents.ensures.value) at c.in_ok-write_agents.ensures.text)) (rw c.segments.ensures.value at c.in_ok-write_lines.ensures.text)) (rw c.posts.ensures.value at c.in_err-write_lines-2.ensures.text)))

pub returns-clause-text : goal.returns-clause-text
returns-clause-text g c = wrote_then _ _ _ c.write_lines-3.result _ _ (Appends-trans _ _ _ _ _ (Appends-trans _ _ _ _ _ (Appends-trans _ _ _ _ _ c.in_ok-write_head.ensures.text (rw (c.version.ensures.value, c.agents.ensures.value) at c.in_ok-write_agents.ensures.text)) (rw c.segments.ensures.value at c.in_ok-write_lines.ensures.text)) (rw c.posts.ensures.value at c.in_ok-write_lines-2.ensures.text)) (rw c.goals.ensures.value at c.write_lines-3.ensures.text)
