use Rattle.std.proofs.Common.{◌≡◌, ◌≤◌, ◌++◌, ℕ, List, length}
use Rattle.std.specs.Vec.{vec_capacity}
use Rattle.logbook.specs.Pages.{Book}
use Rattle.crowd_data.specs.Scenario.{Parts}
use Rattle.post_box.specs.Ends.{BoxState}
use Rattle.published_frames.specs.declared.entry.Step.{Step}
use Rattle.live_session.specs.Steering.{AreSteered, AreSteering}
use Rattle.live_session.proofs.joining.join_all.Given as goal

abbrev pub invariant-loop-steering : goal.invariant-loop-steering
invariant-loop-steering g l = record {
  split : l.fn.list.items ≡ l.yielded ++ l.steering-iterator.rest.items;
  count : length l.joined.items ≡ length l.yielded;
  room : length l.fn.list.items ≤ vec_capacity l.joined;
  steered : (box : BoxState) (source : Book × Parts) (history : List Step) (turns : ℕ) → AreSteering box source history turns l.fn.list.items → AreSteered box source history turns l.joined.items;
}
