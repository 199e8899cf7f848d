use Rattle.std.proofs.Common.{◌∙◌, arith}
use Rattle.frame_step.proofs.Pieces.{next_piece}
use Rattle.frame_step.proofs.putting.put_pieces.Goals as goal

pub loop-piece-preserved : goal.loop-piece-preserved
loop-piece-preserved c =
    let so_far = c.loop-piece.invariant in
    let put = c.put_piece.ensures in
    let pieces = c.args.pieces.now in
    let i = c.loop-piece.piece-index in
    record {
      moved = λ state all. next_piece state pieces i _ c.loop-piece.into.items c.put_piece.new.into.items c.loop-piece-test.true put.count
          (put.moved state (all i _ c.loop-piece-test.true)) (put.others state (all i _ c.loop-piece-test.true)) (so_far.moved state all);
      others = λ state all who was. put.others state (all i _ c.loop-piece-test.true) who (so_far.others state all who was);
      count = put.count ∙ so_far.count;
    }

pub returns-clause-moved : goal.returns-clause-moved
returns-clause-moved c = λ state all k d h. c.loop-piece.invariant.moved state all k d (omega (arith, h, c.loop-piece-test.false))
