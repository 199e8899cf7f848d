use Rattle.frame_step.proofs.TakenPosts.{one_taken}
use Rattle.frame_step.proofs.posts.take_one.Goals as goal

pub returns-clause-items : goal.returns-clause-items
returns-clause-items c = one_taken c.args.bodies.now.items c.args.post.now _ _ c.requires.agent c.requires.numbered (rw c.items.ensures at c.set.ensures.items)
