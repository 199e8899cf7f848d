use Rattle.std.proofs.Common.{◌∙◌, ◌<◌, ◌+◌, arith, length, length-set, subst, sym}
use Rattle.published_frames.specs.Names.{writer_history, writer_source}
use Rattle.live_session.specs.declared.steered.Steering.{Steering}
use Rattle.live_session.specs.Steering.{IsSteering}
use Rattle.live_session.proofs.Rows.{row_left, row_replaced}
use Rattle.live_session.proofs.own_turns.own_turns.Goals as goal

pub loop-i-preserved : goal.loop-i-preserved
loop-i-preserved g c =
    let inv = c.loop-i.invariant in
    let d = c.args.desk.now in
    let below : c.loop-i.i < length c.loop-i.list.items = omega (arith, inv.count, c.len-i-end.ensures, c.loop-i-test.true) in
    let before = inv.left c.loop-i.i c.index_mut.result.now (omega arith) below in
    let here = c.in_ok-own_turn.ensures c.loop-i.i (subst (λ (s : Steering). IsSteering c.args.posts.now (writer_source d.writer) (writer_history d.writer) d.stepper.frame.number c.loop-i.i s) (sym c.index_mut.ensures.value) before) in
    record {
      count = length-set c.loop-i.list.items c.loop-i.i c.own_turn.new.steering ∙ inv.count;
      done = row_replaced (IsSteering c.args.posts.now (writer_source d.writer) (writer_history d.writer) (d.stepper.frame.number + 1)) c.loop-i.list.items c.loop-i.i c.own_turn.new.steering below inv.done here;
      left = row_left (IsSteering c.args.posts.now (writer_source d.writer) (writer_history d.writer) d.stepper.frame.number) c.loop-i.list.items c.loop-i.i c.own_turn.new.steering inv.left;
    }
