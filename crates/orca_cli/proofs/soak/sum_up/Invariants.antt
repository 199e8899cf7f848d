use Rattle.std.proofs.Common.{◌≡◌, ◌≤◌, ◌+◌, ◌-◌, length}
use Rattle.crowd_data.specs.Scripts.{IsCursor}
use Rattle.orca_cli.proofs.SummedUp.{IsSoFar}
use Rattle.orca_cli.proofs.soak.sum_up.Given as goal

-- the frames so far are summed up, with those behind the present one still to come
abbrev pub invariant-loop-stepper : goal.invariant-loop-stepper
invariant-loop-stepper g l = record {
  same : l.stepper.scenario ≡ l.fn.stepper.scenario;
  so_far : IsSoFar l.fn.stepper.scenario l.fn.stepper.frame l.stepper.frame l.summary;
  frames : l.summary.frames ≡ l.stepper.frame.number;
  cursor : IsCursor l.stepper.scenario.posts (l.stepper.frame.number + 1) l.place;
  room : length l.stepper.scenario.posts ≤ length l.script.items + l.script.spare;
}

-- the steps that are left
abbrev pub decreases-loop-stepper : goal.decreases-loop-stepper
decreases-loop-stepper g l = l.stepper.scenario.steps - l.stepper.frame.number
