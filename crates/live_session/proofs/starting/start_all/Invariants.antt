use Rattle.std.proofs.Common.{◌≡◌, ◌≤◌, ◌++◌, [], length}
use Rattle.std.specs.Prelude.{All}
use Rattle.std.specs.Vec.{vec_capacity}
use Rattle.published_frames.specs.declared.reader.FrameReader.{FrameReader}
use Rattle.published_frames.specs.Names.{reader_source}
use Rattle.live_session.specs.Steering.{AreSteering}
use Rattle.live_session.proofs.starting.start_all.Given as goal

abbrev pub invariant-loop-poster : goal.invariant-loop-poster
invariant-loop-poster g l = record {
  split : l.fn.posters.items ≡ l.yielded ++ l.poster-iterator.rest.items;
  count : length l.list.items ≡ length l.yielded;
  room : length l.fn.posters.items ≤ vec_capacity l.list;
  readers : All (λ (r : FrameReader). reader_source r ≡ (g.J.Writes.book, l.scenario)) l.readers.items;
  steering : AreSteering l.posts (g.J.Writes.book, l.scenario) [] 0 l.list.items;
}
