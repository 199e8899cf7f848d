use Rattle.std.proofs.Common.{ap}
use Rattle.post_box.specs.declared.view.Known.{Known}
use Rattle.post_box.proofs.Keeps.{makes}
use Rattle.post_box.proofs.poster.Poster.first_of.Goals as goal

pub another-pass-requires-clause-rule : goal.another-pass-requires-clause-rule
another-pass-requires-clause-rule c = makes c.args.taker.now.id c.args.taker.now.me.view.client (ap (λ (v : Known). v.role) c.requires.taker)
