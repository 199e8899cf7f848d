-- Each agent has an advice.
use Rattle.std.proofs.Common.{◌≡◌, ◌≢◌, ◌⊎◌, inl, inr, ⊎_elim, ℕ, List, All, refl, pos, ◌<ℤ◌}
use Rattle.std.proofs.lemmas.Bool.{cases_eq}
use Rattle.fixed_vec.specs.declared.vector.V2.{V2}
use Rattle.fixed_vec.specs.Vector.{square, zero_vector}
use Rattle.fixed_vec.specs.Meeting.{IsEmpty, Meeting}
use Rattle.fixed_vec.specs.Point.{Rational, rounded_of}
use Rattle.crowd_data.specs.declared.agent.Agent.{Agent}
use Rattle.crowd_data.specs.declared.frame.Mark.{Mark}
use Rattle.crowd_data.specs.declared.frame.Mark.TheVariants.{Fallback, Feasible, Stopped}
use Rattle.crowd_data.specs.Advice.{IsAdvice, GivesWay, StandsStill, agent_at, hard_planes, soft_planes}
use Rattle.crowd_data.specs.Scenario.{Parts}
use Rattle.planar_program.proofs.Existence.{nearest_or_none}
use Rattle.run_law.proofs.SomeMark.{some_mark}
use Rattle.run_law.proofs.SomeRelief.{least_relief}

-- the mark of an agent that moves, but for crowding
plain_mark : (relief : ℕ) → (mark : Mark) × ((relief ≡ 0 → mark ≡ Feasible) × (relief ≢ 0 → mark ≡ Fallback))
plain_mark relief = ⊎_elim
    (λ none. (Feasible, (λ e. refl, λ ne. absurd (ne none))))
    (λ some. (Fallback, (λ e. absurd (some e), λ ne. refl)))
    (cases_eq relief 0)

module _ (scenario : Parts) (crowd : List Agent) (who : ℕ) where
  -- an agent has an advice
  abbrev pub HasAdvice : Type 0
  HasAdvice = (vel : V2) × (mark : Mark) × (relief : ℕ) × IsAdvice scenario crowd who vel mark relief

  advised : (vel : V2) (plain : Mark) (relief : ℕ) → StandsStill scenario crowd who vel plain relief ⊎ GivesWay scenario crowd who vel plain relief → HasAdvice
  advised vel plain relief way = let (mark, marked) = some_mark crowd who plain in (vel, mark, relief, (plain, way, marked))

  stands : IsEmpty (hard_planes scenario (agent_at crowd who)) → HasAdvice
  stands empty = advised zero_vector Stopped 0 (inl (record { no_room = empty; still = refl; stopped = refl; unrelieved = refl }))

  moves : All (λ plane. pos 0 <ℤ square plane.n) (soft_planes crowd who) → (p : Rational) → Meeting (hard_planes scenario (agent_at crowd who)) p → HasAdvice
  moves nonzero p meets =
      let (relief, least, nearest) = least_relief (hard_planes scenario (agent_at crowd who)) (soft_planes crowd who) (agent_at crowd who).pref p meets nonzero in
      let (plain, marks) = plain_mark relief in
      advised (rounded_of nearest.0) plain relief
      (inr (record { room = (p, meets); least = least; nearest = (nearest.0, nearest.1, refl); feasible = marks.0; fallback = marks.1 }))

  pub some_advice : All (λ plane. pos 0 <ℤ square plane.n) (soft_planes crowd who) → HasAdvice
  some_advice nonzero = ⊎_elim stands (λ best. moves nonzero best.0 best.1.meets) (nearest_or_none (hard_planes scenario (agent_at crowd who)) (agent_at crowd who).pref)
