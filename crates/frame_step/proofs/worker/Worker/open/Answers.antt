use Rattle.std.proofs.Common.{◌∙◌, ap, arith, length, subst, sym}
use Rattle.crowd_data.specs.Run.{Snapshot}
use Rattle.crowd_data.proofs.Frames.{length-starting_bodies}
use Rattle.frame_step.specs.Workers.{IsDeskFor}
use Rattle.frame_step.proofs.worker.Worker.open.Goals as goal

pub returns : goal.returns
returns c = subst (IsDeskFor c.args.scenario.now c.args.pieces) (sym c.new.ensures) (record {
  numbers = omega (arith, c.in_ok-with_room.ensures.room);
  count = ap (λ (s : Snapshot). length s.bodies) c.in_ok-first_frame.ensures ∙ length-starting_bodies 0 c.args.scenario.now.agents;
  planes = omega (arith, ap length c.segments.ensures.value, c.in_ok-open.ensures);
})
