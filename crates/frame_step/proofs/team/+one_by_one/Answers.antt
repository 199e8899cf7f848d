use Rattle.std.proofs.Common.{◌≡◌, ◌++◌, rules, sym, subst}
use Rattle.std.specs.List.{All}
use Rattle.std.proofs.lemmas.List.Elements.{All-append}
use Rattle.exact_algebra.proofs.Elements.{back_of, front_of}
use Rattle.work_claim.specs.Names.{claims_id}
use Rattle.frame_step.specs.Workers.{HasWorked, IsEquipped}
use Rattle.frame_step.proofs.team.+one_by_one.Goals as goal

pub returns-clause-worked : goal.returns-clause-worked
returns-clause-worked g t c = λ round all.
    let id = claims_id c.args.claims.now in
    let state = c.args.crowd.now in
    let cut = c.split_at_mut-first in
    let first = cut.result.0.now in
    let others = cut.result.1.now in
    let both : All (IsEquipped id round state.scenario) (first ++ others) = subst (All (IsEquipped id round state.scenario)) cut.ensures.value all in
    let Q = HasWorked id round state in
    let here : All Q c.join_mut.new.f.6.now = c.join_mut.ensures.0.met.1.1 round (front_of (IsEquipped id round state.scenario) first others both) in
    let there : All Q c.join_mut.new.g.6.now = c.join_mut.ensures.1.met.1.1 round (back_of (IsEquipped id round state.scenario) first others both) in
    let same : c.first-1.given.0 ≡ c.join_mut.new.f.6.now = search rules in
    let same_too : c.others-1.given.0 ≡ c.join_mut.new.g.6.now = search rules in
    All-append Q c.first-1.given.0 c.others-1.given.0 (subst (All Q) (sym same) here) (subst (All Q) (sym same_too) there)
