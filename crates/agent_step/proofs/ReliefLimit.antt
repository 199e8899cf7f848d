-- No advice in a crowd that stands in a frame relieves by more than the greatest relief.
use Rattle.std.proofs.Common.{◌≤◌, ◌<◌, ℕ, List, length, inl, inr, ⊎_elim, refl, arith}
use Rattle.std.proofs.lemmas.Bool.{cases_lt}
use Rattle.fixed_vec.specs.declared.vector.V2.{V2}
use Rattle.crowd_data.specs.declared.agent.Agent.{Agent}
use Rattle.crowd_data.specs.declared.frame.Body.{Body}
use Rattle.crowd_data.specs.declared.frame.Mark.{Mark}
use Rattle.crowd_data.specs.Advice.{GivesWay, IsAdvice, agent_at, hard_planes, soft_planes}
use Rattle.crowd_data.specs.Run.{crowd_of}
use Rattle.crowd_data.specs.Scenario.{Parts}
use Rattle.planar_program.specs.declared.relief.TheConstants.{GREATEST_RELIEF}
use Rattle.agent_step.specs.Sight.{ArePresent}
use Rattle.agent_step.proofs.Reliefs.{enough_relief}
use Rattle.agent_step.proofs.SoftPlanes.{moves-at, soft_sized}

module _ (scenario : Parts) (agents : List Agent) (bodies : List Body) (present : ArePresent agents bodies) (who : ℕ) (here : who < length agents) where
  abbrev crowd : List Agent
  crowd = crowd_of agents bodies

  gives_little : (vel : V2) (mark : Mark) (relief : ℕ) → GivesWay scenario crowd who vel mark relief → relief ≤ GREATEST_RELIEF
  gives_little vel mark relief moves = ⊎_elim
      (λ more.
      let met =
      enough_relief (hard_planes scenario (agent_at crowd who)) (soft_planes crowd who) _ scenario.ring (agent_at crowd who).speed (moves-at agents bodies present who here).build.speed refl
      (soft_sized agents bodies present who here) moves.room in
      absurd (moves.least GREATEST_RELIEF more met.0 met.1))
      (λ little. little)
      (cases_lt GREATEST_RELIEF relief)

  pub advised_relief : (vel : V2) (mark : Mark) (relief : ℕ) → IsAdvice scenario crowd who vel mark relief → relief ≤ GREATEST_RELIEF
  advised_relief vel mark relief (plain, inl stands, marked) = omega (arith, stands.unrelieved)
  advised_relief vel mark relief (plain, inr moves, marked) = gives_little vel plain relief moves
