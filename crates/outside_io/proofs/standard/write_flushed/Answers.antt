use Rattle.std.proofs.lemmas.Result.{err_from_is_err_and}
use Rattle.outside_io.proofs.WroteLemmas.{prefix_kept}
use Rattle.outside_io.proofs.standard.write_flushed.Goals as goal

-- the writer took some bytes, and the flush that failed keeps them
pub returns-in_err-flush-clause-partly_reached : goal.returns-in_err-flush-clause-partly_reached
returns-in_err-flush-clause-partly_reached g c =
    let exit = c.from_residual-in_err-flush in
    let failed = err_from_is_err_and exit.result exit.ensures.1 in
    let taken = c.in_ok-taken in
    rw failed.1 (prefix_kept _ _ _ taken.taken c.args.piece.now taken.ensures.bytes c.flush.ensures.bytes)
