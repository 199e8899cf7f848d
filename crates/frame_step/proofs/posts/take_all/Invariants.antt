use Rattle.std.proofs.Common.{◌≡◌, drop, length}
use Rattle.crowd_data.specs.Present.{AreNumbered}
use Rattle.crowd_data.specs.Run.{after_posts}
use Rattle.frame_step.proofs.posts.take_all.Given as goal

-- what the posts that are left make of the bodies is what all of them make
abbrev pub invariant-loop-post : goal.invariant-loop-post
invariant-loop-post l = record {
  items : after_posts (drop l.post-index l.posts) l.bodies.items ≡ after_posts l.posts l.fn.bodies.items;
  spare : l.bodies.spare ≡ l.fn.bodies.spare;
  count : length l.bodies.items ≡ length l.fn.bodies.items;
  numbered : AreNumbered l.bodies.items;
}
