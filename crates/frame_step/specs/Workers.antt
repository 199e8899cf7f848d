-- What a worker is before and after its part of a step, and what the workers are between steps.
use Rattle.std.specs.Prelude.{◌≡◌, ℕ, ◌+◌, ◌-◌, ◌*◌, ◌≤◌, List, [], ◌++◌, length, All, IsSomeAnd}
use Rattle.atomic_table.specs.Seated.{TableId}
use Rattle.agent_step.specs.Frozen.{FrozenState, most_planes}
use Rattle.crowd_data.specs.Scenario.{Parts}
use Rattle.crossbeam_utils.specs.Padded.{padded_value}
use Rattle.work_claim.specs.declared.view.RoundView.{RoundView}
use Rattle.work_claim.specs.Names.{claimer_id, claimer_view, claims_id, root_id, root_view}
use Rattle.work_claim.specs.Views.{IsAllBack, lent, most_claimers}
use Rattle.frame_step.specs.Moved.{IsPieceMoved, agents_per_piece}
use Rattle.frame_step.specs.declared.worker.Desk.{Desk}
use Rattle.frame_step.specs.declared.worker.Worker.{Worker}
use Rattle.frame_step.specs.declared.team.Team.{Team}

-- a desk with room for the steps of a scenario whose agents make so many pieces
pub record IsDeskFor (scenario : Parts) (pieces : ℕ) (desk : Desk) : Type 0 where
  pub numbers : pieces ≤ length desk.drawn.items + desk.drawn.spare
  pub count : length desk.bodies.items ≡ length scenario.agents
  pub planes : most_planes (length scenario.segments) ≤ desk.scratch

-- a worker's desk
abbrev pub desk_of : Worker → Desk
desk_of worker = padded_value worker.desk

abbrev pub IsWorkerFor : Parts → ℕ → Worker → Type 0
IsWorkerFor scenario pieces worker = IsDeskFor scenario pieces (desk_of worker)

-- a claimer's view once it drew these numbers, and found no more
abbrev pub after_drawing : RoundView → List ℕ → RoundView
after_drawing v numbers = record v { own_ends = v.own_ends + 1; ends = v.ends + 1; drawn = numbers }

-- the root's view after it lent so many claimers
abbrev pub lending_to : RoundView → ℕ → RoundView
lending_to v count = record v { parts = v.parts - count; lent = v.lent + count }

-- the root's view after it took back the claimer that drew these numbers, and found no more
abbrev pub with_worker : RoundView → List ℕ → RoundView
with_worker v numbers = record v { parts = v.parts + 1; ends = v.ends + 1; drawn = v.drawn ++ numbers }

-- a worker that has a claimer of the round, and hasn't drawn
pub record IsEquipped (id : TableId) (round : RoundView) (scenario : Parts) (worker : Worker) : Type 0 where
  pub room : IsDeskFor scenario round.pieces (desk_of worker)
  pub none : (desk_of worker).drawn.items ≡ []
  pub claimer : IsSomeAnd worker.claimer (λ c. (claimer_id c ≡ id) × (claimer_view c ≡ lent round))

-- a worker that drew pieces until there were no more, and moved the bodies of their agents
pub record HasWorked (id : TableId) (round : RoundView) (state : FrozenState) (worker : Worker) : Type 0 where
  pub room : IsDeskFor state.scenario round.pieces (desk_of worker)
  pub moved : All (IsPieceMoved state (desk_of worker).bodies.items) (desk_of worker).drawn.items
  pub claimer : IsSomeAnd worker.claimer (λ c. (claimer_id c ≡ id) × (claimer_view c ≡ after_drawing (lent round) (desk_of worker).drawn.items))

-- the workers between two steps of a scenario, after at most so many rounds
pub record IsTeam (scenario : Parts) (most : ℕ) (team : Team) : Type 0 where
  pub claims : root_id team.root ≡ claims_id team.claims
  pub all_back : IsAllBack (root_view team.root)
  pub few_rounds : (root_view team.root).rounds ≤ most
  pub pieces : length scenario.agents ≤ (root_view team.root).pieces * agents_per_piece
  pub few : length team.workers.items ≤ most_claimers
  pub room : All (IsWorkerFor scenario (root_view team.root).pieces) team.workers.items
  pub planes : most_planes (length scenario.segments) ≤ team.scratch
