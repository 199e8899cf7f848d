use Rattle.std.proofs.Common.{◌∙◌}
use Rattle.frame_step.proofs.TakenPosts.{count_taken, more_taken, numbered_taken}
use Rattle.frame_step.proofs.posts.take_all.Goals as goal

pub loop-post-preserved : goal.loop-post-preserved
loop-post-preserved c =
    let so_far = c.loop-post.invariant in
    let posts = c.args.posts.now in
    let place = c.loop-post.post-index in
    let bodies = c.loop-post.bodies.items in
    let new = c.take_one.new.bodies.items in
    record {
      items = more_taken posts place _ bodies new c.loop-post-test.true c.take_one.ensures.items ∙ so_far.items;
      spare = c.take_one.ensures.spare ∙ so_far.spare;
      count = count_taken posts place _ bodies new c.loop-post-test.true c.take_one.ensures.items ∙ so_far.count;
      numbered = numbered_taken posts place _ bodies new c.loop-post-test.true c.take_one.ensures.items so_far.numbered;
    }
