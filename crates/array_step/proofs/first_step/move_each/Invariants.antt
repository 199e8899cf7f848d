use Rattle.std.proofs.Common.{◌≡◌, ◌<◌, ◌≤◌, ◌+◌, ℕ, [], slice_index_or}
use Rattle.crowd_data.specs.Run.{IsNext, Snapshot, body_at}
use Rattle.array_step.specs.declared.agent.CrowdAgent.{CrowdAgent}
use Rattle.array_step.specs.Arrays.{moved_by}
use Rattle.array_step.proofs.first_step.move_each.Given as goal

-- the agents so far have moved, and the others are as they were
abbrev pub invariant-loop-k : goal.invariant-loop-k
invariant-loop-k l = record {
  moved : (next : Snapshot) → IsNext l.crowd.scenario l.crowd.frame [] next → (j : ℕ) (d : CrowdAgent) → j < l.k
      → slice_index_or l.agents j d ≡ moved_by (slice_index_or l.fn.agents j d) (body_at next.bodies (l.first + j));
  later : (j : ℕ) (d : CrowdAgent) → l.k ≤ j → slice_index_or l.agents j d ≡ slice_index_or l.fn.agents j d;
  room : l.scratch ≡ l.fn.scratch;
}
