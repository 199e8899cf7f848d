use Rattle.std.proofs.Common.{◌≡◌, ◌-◌, length}
use Rattle.std.specs.List.{All}
use Rattle.work_claim.specs.Names.{claimer_id, claimer_view}
use Rattle.frame_step.specs.Moved.{IsPieceMoved}
use Rattle.frame_step.specs.Workers.{IsDeskFor}
use Rattle.frame_step.proofs.worker.draw_all.Given as goal

-- the pieces drawn so far are those of the list, and their bodies are moved
abbrev pub invariant-loop-piece : goal.invariant-loop-piece
invariant-loop-piece g l = record {
  id : claimer_id l.claimer ≡ claimer_id l.fn.claimer;
  drawn : claimer_view l.claimer ≡ record (claimer_view l.fn.claimer) { drawn = l.desk.drawn.items };
  moved : All (IsPieceMoved l.crowd l.desk.bodies.items) l.desk.drawn.items;
  room : IsDeskFor l.crowd.scenario (claimer_view l.fn.claimer).pieces l.desk;
}

abbrev pub decreases-loop-piece : goal.decreases-loop-piece
decreases-loop-piece g l = (claimer_view l.fn.claimer).pieces - length l.desk.drawn.items
