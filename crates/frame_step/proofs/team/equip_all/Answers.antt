use Rattle.std.proofs.Common.{◌≡◌, ◌<◌, ◌∙◌, ⊎_elim, ap, arith, length, length-set, slice_index_or, slice_set, subst, sym}
use Rattle.std.proofs.lemmas.Bool.{cases_lt}
use Rattle.std.proofs.lemmas.List.{get_or_default, get_or-set_same, get_or-set_other}
use Rattle.work_claim.specs.Names.{claims_id, root_view}
use Rattle.work_claim.specs.Views.{lending}
use Rattle.frame_step.specs.Workers.{IsWorkerFor, IsEquipped}
use Rattle.frame_step.proofs.Rounds.{lending_to-more, same_round}
use Rattle.frame_step.proofs.team.equip_all.Goals as goal

pub loop-i-preserved : goal.loop-i-preserved
loop-i-preserved c =
    let so_far = c.loop-i.invariant in
    let e = c.equip.ensures in
    let i = c.loop-i.i in
    let workers = c.loop-i.workers in
    let first = root_view c.args.root.now in
    let worker = c.equip.new.worker in
    record {
      id = e.claims ∙ so_far.id;
      view = e.view ∙ ap lending so_far.view ∙ lending_to-more first i;
      count = length-set workers i worker ∙ so_far.count;
      rest = λ k d h. get_or-set_other workers i k worker d (λ e. omega arith) ∙ so_far.rest k d (omega arith);
      equipped = λ scenario k d h room. ⊎_elim
          (λ less. subst (IsEquipped (claims_id c.args.claims.now) first scenario) (sym (get_or-set_other workers i k worker d (λ e. omega arith))) (so_far.equipped scenario k d less room))
          (λ last.
          let same : i ≡ k = omega arith in
          let inside : i < length workers = omega (arith, c.loop-i-test.true, so_far.count) in
          let was = so_far.rest i d (omega arith) in
          let here = subst (IsWorkerFor scenario first.pieces) (ap (λ n. slice_index_or c.args.workers.now n d) (sym same) ∙ sym was ∙ get_or_default workers i d c.index-workers-i.result inside) room in
          let equipped = e.equipped scenario (subst (λ v. IsWorkerFor scenario v.pieces (slice_index_or workers i c.index-workers-i.result)) (sym so_far.view) here) in
          let mine = same_round (claims_id c.args.claims.now) first i scenario worker (subst (λ v. IsEquipped (claims_id c.args.claims.now) v scenario worker) so_far.view equipped) in
          subst (IsEquipped (claims_id c.args.claims.now) first scenario) (sym (ap (λ n. slice_index_or (slice_set workers i worker) n d) (sym same) ∙ get_or-set_same workers i worker d inside)) mine)
          (cases_lt k i);
    }

pub returns-clause-equipped : goal.returns-clause-equipped
returns-clause-equipped c = λ scenario rooms k d h.
    let so_far = c.loop-i.invariant in
    so_far.equipped scenario k d (omega (arith, h, so_far.count, c.loop-i-test.false)) (rooms k d (omega (arith, h, so_far.count)))
