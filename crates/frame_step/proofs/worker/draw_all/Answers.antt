use Rattle.std.proofs.Common.{◌∙◌, ◌++◌, ◌∷◌, [], List, ℕ, ap, sym, arith, length}
use Rattle.std.proofs.lemmas.List.{length_push}
use Rattle.work_claim.specs.Names.{claimer_view}
use Rattle.work_claim.specs.declared.view.RoundView.{RoundView}
use Rattle.frame_step.proofs.Pieces.{more_pieces}
use Rattle.frame_step.proofs.worker.draw_all.Goals as goal

pub loop-piece-preserved : goal.loop-piece-preserved
loop-piece-preserved g c =
    let so_far = c.loop-piece.invariant in
    let state = c.args.crowd.now in
    let piece = c.in-Some.piece in
    let old = c.loop-piece.desk.drawn.items in
    let before = claimer_view c.args.claimer.now in
    let moved = c.move_piece.ensures in
    let draws = c.in-Some.ensures.drawn in
    let items = c.push.ensures.items in
    let view = draws.view ∙ ap (λ (v : RoundView). record v { drawn = v.drawn ++ piece ∷ [] }) so_far.drawn in
    record {
      id = c.in-Some.ensures.claims ∙ so_far.id;
      drawn = view ∙ ap (λ (xs : List ℕ). record before { drawn = xs }) (sym items);
      moved = rw items (more_pieces state old piece c.loop-piece.desk.bodies.items c.move_piece.new.bodies.items moved.count so_far.moved moved.moved moved.others);
      room = record {
        numbers = (let long = ap length items ∙ length_push old piece in omega (arith, long, c.push.ensures.spare, so_far.room.numbers));
        count = moved.count ∙ so_far.room.count;
        planes = omega (arith, moved.planes, so_far.room.planes);
      };
    }
