use Rattle.std.proofs.Common.{◌∙◌, ⊎_elim, ◌+◌, ◌*◌, ◌<◌, sym, refl, arith}
use Rattle.std.proofs.lemmas.Bool.{cases_lt}
use Rattle.agent_kdtree.specs.Cells.{cell_at}
use Rattle.agent_kdtree.proofs.Sweeping.{beyond_first, beyond_last, beyond_next, skipped_rest}
use Rattle.agent_kdtree.proofs.grid.sweep.Goals as goal

pub loop-row-init : goal.loop-row-init
loop-row-init c =
    let w = c.window_of-window.result in
    record {
      len = refl;
      value = refl;
      within = omega arith;
      room = omega arith;
      earlier = λ j a l h. beyond_first c.args.places.now c.args.mesh.now c.args.query.now w c.window_of-window.ensures c.args.order.now c.requires.grid.in_mesh j l h;
    }

pub loop-row-preserved : goal.loop-row-preserved
loop-row-preserved c =
    let w = c.window_of-window.result in
    record {
      len = c.sweep_row.ensures.len ∙ c.loop-row.invariant.len;
      value = c.in-Some.ensures.value;
      within = c.in-Some.ensures.within.0;
      room = c.in-Some.ensures.within.1;
      earlier = λ j a l h. beyond_next c.args.places.now c.args.mesh.now c.args.query.now w c.window_of-window.ensures c.args.order.now c.requires.grid.in_mesh c.loop-row.row j l (c.in-Some.ensures.rest j a l) h;
    }

pub returns-clause-value : goal.returns-clause-value
returns-clause-value c =
    let w = c.window_of-window.result in
    c.loop-row.invariant.value
    ∙ sym (skipped_rest c.args.places.now c.args.query.now c.args.order.now c.loop-row.done c.loop-row.invariant.within
    (λ j a b l. ⊎_elim (λ (h : cell_at c.args.places.now c.args.mesh.now c.args.order.now j < c.loop-row.row * c.args.mesh.now.columns + w.left). c.loop-row.invariant.earlier j a l h)
    (λ h. beyond_last c.args.places.now c.args.mesh.now c.args.query.now w c.window_of-window.ensures c.args.order.now c.requires.grid.in_mesh c.loop-row.row j (omega arith) l h)
    (cases_lt (cell_at c.args.places.now c.args.mesh.now c.args.order.now j) (c.loop-row.row * c.args.mesh.now.columns + w.left))))
