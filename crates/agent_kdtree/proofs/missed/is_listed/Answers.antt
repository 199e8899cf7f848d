use Rattle.std.proofs.Common.{◌≢◌, List, subst}
use Rattle.std.proofs.lemmas.List.{take_all}
use Rattle.std.specs.List.{All}
use Rattle.agent_kdtree.specs.declared.near.Near.{Near}
use Rattle.agent_kdtree.proofs.Seen.{not_listed}
use Rattle.agent_kdtree.proofs.missed.is_listed.Goals as goal

pub returns : goal.returns
returns c =
    let others = subst (λ (t : List Near). All (λ (other : Near). other.agent ≢ c.args.k) t) (take_all c.loop-other.other-index c.args.near.now c.loop-other-test.false) c.loop-other.invariant in
    (λ t. cc, λ h. absurd (not_listed c.args.near.now c.args.k others h))
