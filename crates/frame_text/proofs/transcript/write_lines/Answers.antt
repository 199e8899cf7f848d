use Rattle.std.proofs.Common.{arith}
use Rattle.std.proofs.lemmas.Result.{err_from_is_err_and}
use Rattle.std.proofs.KnownBytes.{Appends-trans}
use Rattle.frame_text.proofs.LinesSoFar.{more_lines, prefix_lines}
use Rattle.frame_text.proofs.transcript.write_lines.Goals as goal

pub loop-item-preserved : goal.loop-item-preserved
loop-item-preserved g c =
    let (done, whole, held, later) = c.loop-item.invariant in
    let wrote = c.in_ok-write_line.ensures in
    (_, more_lines g.P.Printed.text c.args.items.now c.loop-item.item-index _ c.item-item.is c.loop-item-test.true done whole, Appends-trans _ _ _ _ _ held wrote.text, omega (arith, wrote.cause.later))

pub returns-in_err-write_line-clause-text : goal.returns-in_err-write_line-clause-text
returns-in_err-write_line-clause-text g c =
    let (done, whole, held, later) = c.loop-item.invariant in
    let p = err_from_is_err_and c.from_residual.result c.from_residual.ensures.1 in
    rw p.1 (prefix_lines g.P.Printed.text c.args.items.now c.loop-item.item-index _ c.item-item.is c.loop-item-test.true _ _ _ done whole held c.in_err-write_line.ensures.text)
