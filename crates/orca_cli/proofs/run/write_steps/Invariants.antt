use Rattle.std.proofs.Common.{◌≡◌, ◌≤◌, ◌+◌, ◌-◌, length}
use Rattle.crowd_data.specs.Scripts.{IsCursor}
use Rattle.orca_cli.proofs.Written.{IsPart}
use Rattle.orca_cli.proofs.run.write_steps.Given as goal

-- what was written, and the text behind the present frame, are the text behind the first one
abbrev pub invariant-loop-stepper : goal.invariant-loop-stepper
invariant-loop-stepper g l = record {
  same : l.stepper.scenario ≡ l.fn.stepper.scenario;
  part : IsPart l.fn.stepper.scenario l.fn.stepper.frame l.stepper.frame (g.T.Sink.held l.fn.out) (g.T.Sink.held l.out);
  later : g.T.Sink.faults l.fn.out ≤ g.T.Sink.faults l.out;
  cursor : IsCursor l.stepper.scenario.posts (l.stepper.frame.number + 1) l.place;
  room : length l.stepper.scenario.posts ≤ length l.script.items + l.script.spare;
}

-- the steps that are left
abbrev pub decreases-loop-stepper : goal.decreases-loop-stepper
decreases-loop-stepper g l = l.stepper.scenario.steps - l.stepper.frame.number
