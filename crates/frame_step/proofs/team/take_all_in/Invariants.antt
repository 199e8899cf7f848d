use Rattle.std.proofs.Common.{◌≡◌, ℕ, ◌+◌, ◌<◌, ◌≤◌, length, slice_index_or}
use Rattle.std.specs.List.{All}
use Rattle.agent_step.specs.Frozen.{FrozenState}
use Rattle.work_claim.specs.Names.{claims_id, root_id, root_view}
use Rattle.work_claim.specs.Views.{IsWholeRound}
use Rattle.work_claim.specs.declared.view.RoundView.{RoundView}
use Rattle.frame_step.specs.Moved.{CoversMoved}
use Rattle.frame_step.specs.Workers.{HasWorked}
use Rattle.frame_step.specs.declared.worker.Worker.{Worker}
use Rattle.frame_step.proofs.team.take_all_in.Given as goal

-- the bodies of the workers so far are put together, and their claimers are back
abbrev pub invariant-loop-i : goal.invariant-loop-i
invariant-loop-i l = record {
  id : root_id l.root ≡ root_id l.fn.root;
  parts : (root_view l.root).parts ≡ (root_view l.fn.root).parts + l.i;
  ends : (root_view l.root).ends ≡ l.i;
  rounds : (root_view l.root).rounds ≡ (root_view l.fn.root).rounds;
  pieces : (root_view l.root).pieces ≡ (root_view l.fn.root).pieces;
  whole : 0 < l.i → IsWholeRound (root_view l.root);
  bodies : length l.into.items ≡ length l.fn.into.items;
  covers : (round : RoundView) (state : FrozenState) → All (HasWorked (claims_id l.claims) round state) l.fn.workers → CoversMoved state (root_view l.root).drawn l.into.items;
  count : length l.workers ≡ length l.fn.workers;
  rest : (k : ℕ) (d : Worker) → l.i ≤ k → slice_index_or l.workers k d ≡ slice_index_or l.fn.workers k d;
  desks : (k : ℕ) (d : Worker) → (slice_index_or l.workers k d).desk ≡ (slice_index_or l.fn.workers k d).desk;
}
