use Rattle.std.proofs.Common.{◌∙◌, ◌++◌, List, append-nil, ap, arith, refl, sym}
use Rattle.crowd_data.specs.declared.post.Post.{Post}
use Rattle.crowd_data.proofs.ScriptedPosts.{from_cursor, none_left}
use Rattle.crowd_data.proofs.script.push_script.Goals as goal

pub loop-place-init : goal.loop-place-init
loop-place-init c = record {
  within = c.requires.cursor.within;
  items = ap (λ (posts : List Post). c.args.into.now.items ++ posts) (sym (from_cursor c.args.posts.now c.args.number c.args.from c.requires.cursor));
  before = λ k h. omega (arith, c.requires.cursor.before k h);
  behind = c.requires.cursor.behind;
  room = refl;
  left = c.requires.room;
}

pub returns-else-posts-place-clause-posts : goal.returns-else-posts-place-clause-posts
returns-else-posts-place-clause-posts c =
    let so_far = c.loop-place.invariant in
    let none = none_left c.args.posts.now c.args.number c.loop-place.place _ c.loop-place-test.true c.requires.order so_far.behind c.if-posts-place.false in
    sym (append-nil c.loop-place.into.items) ∙ ap (λ (posts : List Post). c.loop-place.into.items ++ posts) (sym none) ∙ so_far.items
