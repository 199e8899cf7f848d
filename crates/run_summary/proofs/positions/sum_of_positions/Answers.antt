use Rattle.std.proofs.Common.{◌^◌, arith}
use Rattle.std.proofs.lemmas.Int.{ints}
use Rattle.std.proofs.lemmas.List.Elements.{All-get_or}
use Rattle.fixed_vec.specs.Vector.{IsBelow}
use Rattle.crowd_data.specs.declared.frame.Body.{Body}
use Rattle.crowd_data.specs.Run.{body_at, no_body}
use Rattle.run_summary.proofs.SummaryLemmas.{sum_of_positions_more-x, sum_of_positions_more-y}
use Rattle.run_summary.proofs.positions.sum_of_positions.Goals as goal

pub loop-body-preserved : goal.loop-body-preserved
loop-body-preserved c =
    let bodies = c.args.bodies.now in
    let i = c.loop-body.body-index in
    let small : IsBelow (body_at bodies i).pos (2 ^ 31) = All-get_or (λ (body : Body). IsBelow body.pos (2 ^ 31)) bodies i no_body c.loop-body-test.true c.requires.small in
    let x = sum_of_positions_more-x bodies i c.loop-body-test.true in
    let y = sum_of_positions_more-y bodies i c.loop-body-test.true in
    record {
      x = omega (arith, ints);
      y = omega (arith, ints);
      x_size = omega (arith, ints);
      y_size = omega (arith, ints);
    }
