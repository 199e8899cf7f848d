use Rattle.post_box.specs.Ends.{IsPosterOf}
use Rattle.thread_tests.proofs.posts.post_all.Given as goal

abbrev pub invariant-loop-place : goal.invariant-loop-place
invariant-loop-place g l = IsPosterOf l.posts l.poster
