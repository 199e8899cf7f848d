use Rattle.std.proofs.Common.{◌≡◌, ◌∙◌, ap, arith, length, subst, sym}
use Rattle.std.specs.List.{All}
use Rattle.std.proofs.lemmas.List.{with_items_is}
use Rattle.work_claim.specs.Names.{root_view}
use Rattle.work_claim.specs.declared.view.RoundView.{RoundView}
use Rattle.frame_step.specs.Workers.{IsWorkerFor}
use Rattle.frame_step.proofs.team.Team.move_together.Goals as goal

pub work_all-requires-clause-equipped : goal.work_all-requires-clause-equipped
work_all-requires-clause-equipped g c κs within =
    let scenario = c.args.crowd.now.scenario in
    let pieces = ap (λ (v : RoundView). v.pieces) c.begin.ensures.begun.1 in
    let rooms = subst (λ n. All (IsWorkerFor scenario n) c.as_mut_slice-workers.result.now) (sym pieces) (rw c.as_mut_slice-workers.ensures.value c.requires.team.2.room) in
    (root_view c.begin.new.self, c.equip_all.ensures.equipped scenario rooms)

pub take_all_in-requires-clause-worked : goal.take_all_in-requires-clause-worked
take_all_in-requires-clause-worked g c =
    let state = c.args.crowd.now in
    let round = root_view c.begin.new.self in
    let pieces = ap (λ (v : RoundView). v.pieces) c.begin.ensures.begun.1 in
    let rooms = subst (λ n. All (IsWorkerFor state.scenario n) c.as_mut_slice-workers.result.now) (sym pieces) (rw c.as_mut_slice-workers.ensures.value c.requires.team.2.room) in
    (round, state, c.requires.bodies, c.work_all.ensures.worked round (c.equip_all.ensures.equipped state.scenario rooms))

pub returns-clause-team : goal.returns-clause-team
returns-clause-team g c = λ most team.
    let state = c.args.crowd.now in
    let round = root_view c.begin.new.self in
    let begun = c.begin.ensures.begun.1 in
    let pieces = ap (λ (v : RoundView). v.pieces) begun in
    let slice = c.as_mut_slice-workers.ensures.value in
    let rooms = subst (λ n. All (IsWorkerFor state.scenario n) c.as_mut_slice-workers.result.now) (sym pieces) (rw slice team.room) in
    let worked = c.work_all.ensures.worked round (c.equip_all.ensures.equipped state.scenario rooms) in
    let taken = c.take_all_in.ensures in
    let lent = c.equip_all.ensures.view in
    let same = taken.pieces ∙ ap (λ (v : RoundView). v.pieces) lent in
    let old = c.args.self.now.workers in
    let count : length c.take_all_in.new.workers ≡ length old.items = taken.count ∙ c.work_all.ensures.count ∙ c.equip_all.ensures.count ∙ ap length slice in
    let items = with_items_is old c.take_all_in.new.workers (count ∙ sym old.ok.0) in
    record {
      claims = taken.claims ∙ c.equip_all.ensures.claims ∙ c.begin.ensures.claims ∙ team.claims;
      all_back = taken.all_back;
      few_rounds = omega (arith, taken.rounds, ap (λ (v : RoundView). v.rounds) lent, ap (λ (v : RoundView). v.rounds) begun, team.few_rounds);
      pieces = omega (arith, same, pieces, team.pieces);
      few = omega (arith, count, ap length items, team.few);
      room = rw items (subst (λ n. All (IsWorkerFor state.scenario n) c.take_all_in.new.workers) (sym same) (taken.room round state worked));
      planes = team.planes;
    }

pub returns-clause-moved : goal.returns-clause-moved
returns-clause-moved g c =
    let state = c.args.crowd.now in
    let round = root_view c.begin.new.self in
    let pieces = ap (λ (v : RoundView). v.pieces) c.begin.ensures.begun.1 in
    let rooms = subst (λ n. All (IsWorkerFor state.scenario n) c.as_mut_slice-workers.result.now) (sym pieces) (rw c.as_mut_slice-workers.ensures.value c.requires.team.2.room) in
    c.take_all_in.ensures.moved round state c.requires.bodies (c.work_all.ensures.worked round (c.equip_all.ensures.equipped state.scenario rooms))
