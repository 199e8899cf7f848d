use Rattle.std.proofs.Common.{◌++◌, take, arith}
use Rattle.std.proofs.KnownBytes.{Appends-trans}
use Rattle.outside_io.proofs.Pieces.{rest_after}
use Rattle.outside_io.proofs.whole.write_whole.Goals as goal

pub loop-rest-preserved : goal.loop-rest-preserved
loop-rest-preserved g c =
    let so_far = c.loop-rest.invariant in
    let taken = c.in_ok-taken in
    record {
      front = so_far.front ++ take taken.taken c.loop-rest.rest.now;
      whole = rest_after _ _ _ _ taken.ensures.bound so_far.whole;
      held = Appends-trans _ _ _ _ _ so_far.held taken.ensures.bytes;
      later = omega (arith, taken.ensures.cause.later);
    }
