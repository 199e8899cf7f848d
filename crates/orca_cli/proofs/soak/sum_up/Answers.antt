use Rattle.std.proofs.Common.{◌∙◌, ◌+◌, ap, arith, sym}
use Rattle.crowd_data.specs.Run.{Snapshot}
use Rattle.crowd_data.specs.Scenario.{Parts}
use Rattle.run_summary.specs.Summary.{Tally}
use Rattle.orca_cli.proofs.SummedUp.{all_summed, one_more}
use Rattle.orca_cli.proofs.soak.sum_up.Goals as goal

pub loop-stepper-preserved : goal.loop-stepper-preserved
loop-stepper-preserved g c =
    let so_far = c.loop-stepper.invariant in
    let next = rw (so_far.same) at c.step_scripted-place.ensures.next in
    let script = rw (so_far.same) at c.step_scripted-place.ensures.script in
    let shown = c.frame-in-loop-stepper.ensures.value in
    record {
      same = c.step_scripted-place.ensures.scenario ∙ so_far.same;
      so_far = one_more c.args.stepper.now.scenario c.args.stepper.now.frame c.loop-stepper.stepper.frame c.step_scripted-place.new.stepper.frame _ _ _ script next (rw shown at c.add.ensures.tally) so_far.so_far;
      frames = ap (λ (t : Tally). t.frames) c.add.ensures.counted ∙ ap (λ n. n + 1) so_far.frames ∙ sym c.step_scripted-place.ensures.next.number;
      cursor = rw (c.step_scripted-place.ensures.scenario) c.step_scripted-place.ensures.cursor;
      room = rw (c.step_scripted-place.ensures.scenario) (omega (arith, so_far.room, c.step_scripted-place.ensures.room));
    }

pub returns-clause-run : goal.returns-clause-run
returns-clause-run g c =
    let so_far = c.loop-stepper.invariant in
    let steps = c.steps-steps.ensures.value ∙ ap (λ (s : Parts). s.steps) c.scenario.ensures.value in
    let number = ap (λ (f : Snapshot). f.number) c.frame.ensures.value in
    all_summed c.args.stepper.now.scenario c.args.stepper.now.frame c.loop-stepper.stepper.frame c.loop-stepper.summary (omega (arith, steps, number, c.loop-stepper-test.false)) so_far.so_far
