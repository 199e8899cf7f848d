use Rattle.std.proofs.Common.{◌≡◌, ◌≤◌, ◌-◌, ◌++◌, length, take}
use Rattle.live_session.proofs.gathering.append.Given as goal

abbrev pub invariant-loop-post : goal.invariant-loop-post
invariant-loop-post l = record {
  items : l.list.items ≡ l.fn.list.items ++ take l.post-index l.more;
  room : length l.more - l.post-index ≤ l.list.spare;
}
