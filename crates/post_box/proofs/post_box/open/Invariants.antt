use Rattle.std.proofs.Common.{◌≡◌, map, length}
use Rattle.std.specs.Vec.{vec_capacity}
use Rattle.std.specs.List.{range_with_len}
use Rattle.crossbeam_queue.specs.SegTies.{IsSegPassOf}
use Rattle.post_box.specs.Views.{taker_view}
use Rattle.post_box.specs.Ends.{first_poster}
use Rattle.post_box.proofs.post_box.open.Given as goal

abbrev pub invariant-loop-controller : goal.invariant-loop-controller
invariant-loop-controller l = record {
  queue : IsSegPassOf l.queue l.pass;
  taker : l.pass.me.view.client ≡ taker_view l.controller l.agents;
  posters : l.posters.items ≡ map (first_poster l.queue l.agents l.most) (range_with_len 0 l.controller);
  count : length l.posters.items ≡ l.controller;
  room : vec_capacity l.posters ≡ vec_capacity l.initial.posters;
}
