use Rattle.std.proofs.Common.{◌≡◌, ◌≢◌, ◌<◌, ◌∙◌, ℕ, List, ap, arith, length, length-set, slice_index_or, slice_set, subst, sym}
use Rattle.std.proofs.lemmas.List.{get_or_default, get_or-set_same, get_or-set_other}
use native.Mathlib.Decide.{ℕ_discrete}
use mathlib.Core.Logic.{dite}
use Rattle.work_claim.specs.Names.{claims_id, root_view}
use Rattle.work_claim.specs.declared.view.RoundView.{RoundView}
use Rattle.frame_step.specs.Moved.{CoversMoved}
use Rattle.frame_step.specs.Workers.{HasWorked, desk_of}
use Rattle.frame_step.specs.declared.worker.Worker.{Worker}
use Rattle.frame_step.proofs.Pieces.{all_covered, covers_more}
use Rattle.frame_step.proofs.team.take_all_in.Goals as goal

pub loop-i-preserved : goal.loop-i-preserved
loop-i-preserved c =
    let so_far = c.loop-i.invariant in
    let m = c.take_in.ensures in
    let i = c.loop-i.i in
    let workers = c.loop-i.workers in
    let inside : i < length workers = omega (arith, c.loop-i-test.true, so_far.count) in
    let worker = slice_index_or workers i c.index-workers-i.result in
    let new = c.take_in.new.worker in
    let drawn = (desk_of worker).drawn.items in
    let before = (root_view c.loop-i.root).drawn in
    record {
      id = m.claims ∙ so_far.id;
      parts = omega (arith, ap (λ (v : RoundView). v.parts) m.view, so_far.parts);
      ends = omega (arith, ap (λ (v : RoundView). v.ends) m.view, so_far.ends);
      rounds = ap (λ (v : RoundView). v.rounds) m.view ∙ so_far.rounds;
      pieces = ap (λ (v : RoundView). v.pieces) m.view ∙ so_far.pieces;
      whole = λ _. m.whole;
      bodies = m.count ∙ so_far.bodies;
      covers = λ round state all.
          let worked : HasWorked (claims_id c.args.claims.now) round state worker = subst (HasWorked (claims_id c.args.claims.now) round state) (sym (so_far.rest i c.index-workers-i.result (omega arith))) (all i c.index-workers-i.result c.loop-i-test.true) in
          subst (λ (xs : List ℕ). CoversMoved state xs c.take_in.new.into.items) (sym (ap (λ (v : RoundView). v.drawn) m.view))
          (covers_more state before drawn c.loop-i.into.items c.take_in.new.into.items m.count (so_far.covers round state all) (m.moved state worked.moved) (m.others state worked.moved));
      count = length-set workers i new ∙ so_far.count;
      rest = λ k d h. get_or-set_other workers i k new d (λ e. omega arith) ∙ so_far.rest k d (omega arith);
      desks = λ k d. dite (ℕ_discrete k i)
          (λ (same : k ≡ i).
          let here = ap (λ n. slice_index_or (slice_set workers i new) n d) same ∙ get_or-set_same workers i new d inside in
          let was = ap (λ n. slice_index_or workers n d) same ∙ get_or_default workers i d c.index-workers-i.result inside in
          ap (λ (w : Worker). w.desk) here ∙ m.desk ∙ sym (ap (λ (w : Worker). w.desk) was) ∙ so_far.desks k d)
          (λ (other : k ≢ i). ap (λ (w : Worker). w.desk) (get_or-set_other workers i k new d other) ∙ so_far.desks k d);
    }

pub returns-clause-moved : goal.returns-clause-moved
returns-clause-moved c = λ round state full all.
    let so_far = c.loop-i.invariant in
    let view = root_view c.loop-i.root in
    let last = c.loop-i-test.false in
    let once = so_far.whole (omega (arith, c.requires.some, last)) (omega (arith, c.requires.lent, so_far.parts, last, c.loop-i.auto.i-end)) (omega (arith, c.requires.some, so_far.ends, last)) in
    all_covered state view.pieces view.drawn c.loop-i.into.items (so_far.bodies ∙ full) (omega (arith, c.requires.pieces, so_far.bodies, so_far.pieces)) once (so_far.covers round state all)
