use Rattle.std.proofs.Common.{◌≡◌, ◌≤◌, length, vec_capacity}
use Rattle.std.specs.List.{All}
use Rattle.frame_step.specs.Workers.{IsWorkerFor}
use Rattle.frame_step.proofs.team.open_workers.Given as goal

-- the workers so far have room
abbrev pub invariant-loop : goal.invariant-loop
invariant-loop l = record {
  room : All (IsWorkerFor l.scenario l.pieces) l.workers.items;
  made : length l.workers.items ≡ l.counter;
  capacity : l.count ≤ vec_capacity l.workers;
}
