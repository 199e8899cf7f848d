use Rattle.post_box.proofs.Keeps.{learns, takes}
use Rattle.post_box.proofs.taker.Taker.pop.Goals as goal

pub pop_as-requires-clause-rule : goal.pop_as-requires-clause-rule
pop_as-requires-clause-rule g c =
    let pass = c.self.inside.pass in
    (takes pass.id pass.me.view.client c.self.invariant.role, learns pass.id pass.me.view.client c.self.invariant.role)
