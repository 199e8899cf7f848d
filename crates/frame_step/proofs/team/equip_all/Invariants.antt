use Rattle.std.proofs.Common.{◌≡◌, ℕ, ◌<◌, ◌≤◌, length, slice_index_or}
use Rattle.crowd_data.specs.Scenario.{Parts}
use Rattle.work_claim.specs.Names.{claims_id, root_id, root_view}
use Rattle.frame_step.specs.Workers.{IsWorkerFor, IsEquipped, lending_to}
use Rattle.frame_step.specs.declared.worker.Worker.{Worker}
use Rattle.frame_step.proofs.team.equip_all.Given as goal

-- the workers so far have a claimer
abbrev pub invariant-loop-i : goal.invariant-loop-i
invariant-loop-i l = record {
  id : root_id l.root ≡ root_id l.fn.root;
  view : root_view l.root ≡ lending_to (root_view l.fn.root) l.i;
  count : length l.workers ≡ length l.fn.workers;
  rest : (k : ℕ) (d : Worker) → l.i ≤ k → slice_index_or l.workers k d ≡ slice_index_or l.fn.workers k d;
  equipped : (scenario : Parts) (k : ℕ) (d : Worker) → k < l.i → IsWorkerFor scenario (root_view l.fn.root).pieces (slice_index_or l.fn.workers k d) → IsEquipped (claims_id l.claims) (root_view l.fn.root) scenario (slice_index_or l.workers k d);
}
