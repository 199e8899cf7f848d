use Rattle.post_box.proofs.Keeps.{takes_back}
use Rattle.post_box.proofs.taker.Taker.take_back.Goals as goal

pub absorb-requires-clause-rule : goal.absorb-requires-clause-rule
absorb-requires-clause-rule c =
    let pass = c.self.inside.pass in
    let other = c.poster.inside.pass in
    takes_back pass.id pass.me.view.client other.id other.me.view.client c.self.invariant.role c.poster.invariant.role
