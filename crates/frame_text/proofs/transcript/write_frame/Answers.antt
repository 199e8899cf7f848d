use Rattle.std.proofs.lemmas.Result.{err_from_is_err_and}
use Rattle.std.proofs.KnownBytes.{Appends-trans}
use Rattle.outside_io.proofs.WroteLemmas.{prefix_longer, prefix_then, wrote_then}
use Rattle.frame_text.proofs.transcript.write_frame.Goals as goal

pub returns-in_err-write_number-clause-text : goal.returns-in_err-write_number-clause-text
returns-in_err-write_number-clause-text g c =
    let p = err_from_is_err_and c.from_residual.result c.from_residual.ensures.1 in
    rw p.1 (prefix_longer _ _ _ _ (prefix_longer _ _ _ _ c.in_err-write_number.ensures.text))

pub returns-in_err-write_lines-clause-text : goal.returns-in_err-write_lines-clause-text
returns-in_err-write_lines-clause-text g c =
    let p = err_from_is_err_and c.from_residual-in_err-write_lines.result c.from_residual-in_err-write_lines.ensures.1 in
    rw p.1 (prefix_longer _ _ _ _ (prefix_then _ _ _ _ _ c.in_ok-write_number.ensures.text c.in_err-write_lines.ensures.text))

pub returns-clause-text : goal.returns-clause-text
returns-clause-text g c =
    wrote_then _ _ _ c.write_lines-2.result _ _ (Appends-trans _ _ _ _ _ c.in_ok-write_number.ensures.text c.in_ok-write_lines.ensures.text) (rw c.items.ensures at c.write_lines-2.ensures.text)
