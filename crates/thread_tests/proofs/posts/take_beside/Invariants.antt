use Rattle.post_box.specs.Ends.{IsTakerOf}
use Rattle.thread_tests.proofs.posts.take_beside.Given as goal

abbrev pub invariant-loop : goal.invariant-loop
invariant-loop g l = IsTakerOf l.posts l.taker
