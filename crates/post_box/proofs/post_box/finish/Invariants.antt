use Rattle.std.proofs.Common.{◌≡◌, ◌++◌, map}
use Rattle.post_box.specs.Ends.{final_of}
use Rattle.post_box.proofs.post_box.finish.Given as goal

abbrev pub invariant-loop-poster : goal.invariant-loop-poster
invariant-loop-poster g l = record {
  split : l.fn.posters.items ≡ l.yielded ++ l.poster-iterator.rest.items;
  taker : l.taker ≡ record l.initial.taker { final_posts = l.initial.taker.final_posts ++ map final_of l.yielded };
}
