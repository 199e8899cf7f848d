use Rattle.std.proofs.Common.{arith, sym}
use Rattle.crowd_data.specs.declared.post.Post.{Post}
use Rattle.post_box.proofs.Keeps.{sends}
use Rattle.post_box.proofs.poster.Poster.post.Goals as goal

pub push_as-requires-clause-rule : goal.push_as-requires-clause-rule
push_as-requires-clause-rule g c = λ n.
    let p = c.self.inside in
    let is = c.self.invariant in
    let post : Post = record { controller = p.controller; seq = p.sent; agent = c.args.agent; vel = c.args.vel } in
    sends n p.pass.id p.pass.me.view.client post is.role (sym is.controller) (sym is.count) (record { agent = omega arith; vel = c.is_velocity.ensures.0 c.if-not-is_velocity.false })
