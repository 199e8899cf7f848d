use Rattle.std.proofs.Common.{◌∙◌, ◌*◌, ⊎_elim, ap, length, arith}
use Rattle.std.proofs.lemmas.Bool.{cases_lt}
use Rattle.frame_step.proofs.moves.move_alone.Goals as goal

pub move_piece-requires-clause-bodies : goal.move_piece-requires-clause-bodies
move_piece-requires-clause-bodies g c = c.loop-piece.invariant.count ∙ c.requires.bodies

pub loop-piece-preserved : goal.loop-piece-preserved
loop-piece-preserved g c =
    let so_far = c.loop-piece.invariant in
    let piece = c.move_piece.ensures in
    record {
      moved = λ who low inside. ⊎_elim
          (λ less. piece.others who (so_far.moved who less (omega (arith, inside, piece.count))))
          (λ over. piece.moved who (omega (arith, over)) (omega (arith, low)) inside)
          (cases_lt who (c.loop-piece.piece * 32));
      count = piece.count ∙ so_far.count;
      planes = piece.planes ∙ so_far.planes;
    }

pub returns-clause-moved : goal.returns-clause-moved
returns-clause-moved g c =
    let so_far = c.loop-piece.invariant in
    let count = ap length c.items.ensures in
    record {
      count = so_far.count ∙ c.requires.bodies;
      each = λ who inside. so_far.moved who (omega (arith, inside, so_far.count, count, c.piece_count-pieces.ensures.covers, c.loop-piece-test.false)) inside;
    }
