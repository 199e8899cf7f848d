use Rattle.std.proofs.Common.{◌≡◌, ◌≤◌, length}
use Rattle.published_frames.specs.Names.{reader_seen, reader_source}
use Rattle.controller_turns.specs.Controllers.{HasPostedTurns, IsSamePoster, posts_of_run}
use Rattle.controller_turns.proofs.turn_loop.turns.Given as goal

abbrev pub invariant-loop : goal.invariant-loop
invariant-loop g l = record {
  controller : l.controller ≡ l.fn.controller;
  poster : IsSamePoster l.fn.poster l.poster;
  source : reader_source l.reader ≡ reader_source l.fn.reader;
  turned : HasPostedTurns l.fn.controller.goals (reader_source l.fn.reader).1 (reader_seen l.reader) l.poster l.last;
  few : length l.poster.posts ≤ posts_of_run (reader_source l.fn.reader).1 l.fn.controller.goals;
}
