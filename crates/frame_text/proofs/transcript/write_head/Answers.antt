use Rattle.std.proofs.lemmas.Result.{err_from_is_err_and}
use Rattle.std.proofs.KnownBytes.{Appends-trans}
use Rattle.outside_io.proofs.WroteLemmas.{prefix_longer, prefix_then, wrote_then}
use Rattle.frame_text.proofs.transcript.write_head.Goals as goal

pub returns-in_err-write_header-clause-text : goal.returns-in_err-write_header-clause-text
returns-in_err-write_header-clause-text g c =
    let p = err_from_is_err_and c.from_residual.result c.from_residual.ensures.1 in
    rw p.1 (prefix_longer _ _ _ _ (prefix_longer _ _ _ _ (rw c.version.ensures.value at c.in_err-write_header.ensures.text)))

pub returns-in_err-write_steps-clause-text : goal.returns-in_err-write_steps-clause-text
returns-in_err-write_steps-clause-text g c =
    let p = err_from_is_err_and c.from_residual-in_err-write_steps.result c.from_residual-in_err-write_steps.ensures.1 in
    rw p.1 (prefix_longer _ _ _ _ (prefix_then _ _ _ _ _ (rw c.version.ensures.value at c.in_ok-write_header.ensures.text) (rw c.steps.ensures.value at c.in_err-write_steps.ensures.text)))

pub returns-clause-text : goal.returns-clause-text
returns-clause-text g c = wrote_then _ _ _ c.write_ring.result _ _ (Appends-trans _ _ _ _ _ (rw c.version.ensures.value at c.in_ok-write_header.ensures.text) (rw c.steps.ensures.value at c.in_ok-write_steps.ensures.text)) (rw c.ring.ensures.value at c.write_ring.ensures.text)
