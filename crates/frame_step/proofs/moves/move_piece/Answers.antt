use Rattle.std.proofs.Common.{◌≡◌, ◌∙◌, ◌<◌, ⊎_elim, ap, length, length-set, slice_set, subst, arith}
use Rattle.std.proofs.lemmas.Bool.{cases_lt}
use Rattle.crowd_data.specs.Run.{body_at, snapshot_of}
use Rattle.frame_step.specs.Moved.{MovesTo}
use Rattle.frame_step.proofs.MovedBodies.{body_moved, put_here, put_keeps}
use Rattle.frame_step.proofs.moves.move_piece.Goals as goal

pub loop-who-preserved : goal.loop-who-preserved
loop-who-preserved c =
    let so_far = c.loop-who.invariant in
    let state = c.args.crowd.now in
    let frame = snapshot_of c.args.frame.now in
    let who = c.loop-who.who in
    let items = c.loop-who.bodies.items in
    let old = ap length c.items-old.ensures in
    let here : who < length frame.bodies = omega (arith, old, c.min-end.ensures, c.loop-who-test.true) in
    let inside : who < length items = omega (arith, here, c.requires.step.present.full, c.requires.bodies, so_far.count) in
    let advice = c.advise-advice in
    let body : MovesTo state who c.moved.result = body_moved state frame who _ c.moved.result advice.result.vel advice.result.mark advice.result.relief c.requires.step.frame_is here advice.ensures.advice advice.ensures.slow (rw c.items-old.ensures at c.moved.ensures) in
    let here_now = put_here state items who c.moved.result inside body in
    let keeps = put_keeps state items who c.moved.result inside body in
    rw c.set.ensures.items (record {
      moved = λ k low high. ⊎_elim
          (λ less. keeps k (so_far.moved k low less))
          (λ last. let same : who ≡ k = omega arith in subst (λ n. MovesTo state n (body_at (slice_set items who c.moved.result) n)) same here_now)
          (cases_lt k who);
      others = λ k was. keeps k (so_far.others k was);
      count = length-set items who c.moved.result ∙ so_far.count;
      planes = advice.ensures.room ∙ so_far.planes;
    })

pub returns-clause-moved : goal.returns-clause-moved
returns-clause-moved c = λ k low high inside.
    let old = ap length c.items-old.ensures in
    c.loop-who.invariant.moved k low (omega (arith, old, c.min-end.ensures, c.loop-who-test.false, c.requires.step.present.full, c.requires.bodies, c.loop-who.invariant.count))
