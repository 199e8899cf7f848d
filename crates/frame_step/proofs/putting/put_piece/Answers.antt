use Rattle.std.proofs.Common.{◌≡◌, ◌∙◌, ◌<◌, ⊎_elim, ap, length, length-set, subst, arith}
use Rattle.std.proofs.lemmas.Bool.{cases_lt}
use Rattle.agent_step.specs.Frozen.{FrozenState}
use Rattle.crowd_data.specs.Run.{body_at}
use Rattle.frame_step.specs.Moved.{IsPieceMoved, KeepsMoved, MovesTo}
use Rattle.frame_step.proofs.MovedBodies.{put_same}
use Rattle.frame_step.proofs.putting.put_piece.Goals as goal

pub loop-who-preserved : goal.loop-who-preserved
loop-who-preserved c =
    let so_far = c.loop-who.invariant in
    let who = c.loop-who.who in
    let old = c.loop-who.into.items in
    let new = c.set.new.self.items in
    let bodies = c.args.bodies.now in
    let there : who < length bodies = omega (arith, c.min-end.ensures, c.loop-who-test.true) in
    let inside : who < length old = omega (arith, there, c.requires.count, so_far.count) in
    let put : (state : FrozenState) → IsPieceMoved state bodies c.args.piece → KeepsMoved state old new × MovesTo state who (body_at new who) = λ state all.
    put_same state old bodies new who _ inside there c.set.ensures.items (all who (omega (arith, c.loop-who.auto.who)) (omega (arith, c.min-end.ensures, c.loop-who-test.true)) there) in
    record {
      moved = λ state all k low high. ⊎_elim
          (λ less. (put state all).0 k (so_far.moved state all k low less))
          (λ last. let same : who ≡ k = omega arith in subst (λ n. MovesTo state n (body_at new n)) same (put state all).1)
          (cases_lt k who);
      others = λ state all k was. (put state all).0 k (so_far.others state all k was);
      count = ap length c.set.ensures.items ∙ length-set old who _ ∙ so_far.count;
    }

pub returns-clause-moved : goal.returns-clause-moved
returns-clause-moved c = λ state all who low high inside.
    c.loop-who.invariant.moved state all who low (omega (arith, c.min-end.ensures, c.loop-who-test.false, c.requires.count, c.loop-who.invariant.count))
