use Rattle.std.proofs.Common.{◌≡◌, ◌∙◌, ◌+◌, ap, arith, refl, subst}
use Rattle.std.proofs.lemmas.Result.{err_from_is_err_and}
use Rattle.crowd_data.specs.Run.{Snapshot}
use Rattle.crowd_data.specs.Scenario.{Parts}
use Rattle.crowd_data.specs.Scripts.{IsCursor}
use Rattle.orca_cli.proofs.TextBehind.{IsFull}
use Rattle.orca_cli.proofs.Written.{broken_off, ended, part_more}
use Rattle.orca_cli.proofs.run.write_steps.Goals as goal

pub loop-stepper-preserved : goal.loop-stepper-preserved
loop-stepper-preserved g c =
    let so_far = c.loop-stepper.invariant in
    let made = c.in_ok-write_next.ensures in
    let scenario = made.scenario ∙ so_far.same in
    let next = rw (so_far.same) at made.next in
    let script = c.items.ensures ∙ (rw (so_far.same) at c.list_script-place.ensures.posts) in
    let later : c.loop-stepper.stepper.frame.number + 2 ≡ c.write_next.new.stepper.frame.number + 1 = omega (arith, made.next.number) in
    record {
      same = scenario;
      part = part_more c.args.stepper.now.scenario c.args.stepper.now.frame _ _ c.loop-stepper.stepper.frame c.write_next.new.stepper.frame _ script next so_far.part _ refl _ made.text;
      later = omega (arith, so_far.later, made.cause.later);
      cursor = rw (made.scenario) (subst (λ n. IsCursor c.loop-stepper.stepper.scenario.posts n c.list_script-place.result) later c.list_script-place.ensures.cursor);
      room = rw (made.scenario) (omega (arith, so_far.room, c.list_script-place.ensures.room));
    }

pub returns-in_err-write_next-clause-text : goal.returns-in_err-write_next-clause-text
returns-in_err-write_next-clause-text g c =
    let so_far = c.loop-stepper.invariant in
    let made = c.in_err-write_next.ensures in
    let next = rw (so_far.same) at made.next in
    let script = c.items.ensures ∙ (rw (so_far.same) at c.list_script-place.ensures.posts) in
    let p = err_from_is_err_and c.from_residual.result c.from_residual.ensures.1 in
    rw p.1 (broken_off c.args.stepper.now.scenario c.args.stepper.now.frame _ _ c.loop-stepper.stepper.frame c.write_next.new.stepper.frame _ script next so_far.part c.scenario.ensures.valid
    (subst (λ s. IsFull s c.write_next.new.stepper.frame) (made.scenario ∙ so_far.same) made.present.full) _ refl _ made.text)

pub returns-clause-text : goal.returns-clause-text
returns-clause-text g c =
    let so_far = c.loop-stepper.invariant in
    let steps = c.steps-steps.ensures.value ∙ ap (λ (s : Parts). s.steps) c.scenario.ensures.value in
    let number = ap (λ (f : Snapshot). f.number) c.frame.ensures.value in
    let last = ap (λ (f : Snapshot). f.number) c.frame-2.ensures.value in
    ended c.args.stepper.now.scenario c.args.stepper.now.frame _ _ c.loop-stepper.stepper.frame (omega (arith, steps, number, c.loop-stepper-test.false)) so_far.part _ c.write_end.result (rw last at c.write_end.ensures.text)
