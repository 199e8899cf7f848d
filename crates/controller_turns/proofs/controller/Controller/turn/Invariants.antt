use Rattle.std.proofs.Common.{◌≡◌, take}
use Rattle.crowd_data.specs.Run.{snapshot_of}
use Rattle.controller_turns.specs.Turns.{turn}
use Rattle.controller_turns.specs.Controllers.{after_preferences}
use Rattle.controller_turns.proofs.controller.Controller.turn.Given as goal

abbrev pub invariant-loop-goal : goal.invariant-loop-goal
invariant-loop-goal g l = record {
  goals : l.goal-items ≡ l.fn.self.goals;
  posted : l.poster ≡ after_preferences l.initial.poster (turn (take l.goal-index l.goal-items) (snapshot_of l.frame));
}
