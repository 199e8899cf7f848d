-- An agent is crowded or not, and marked so.
use Rattle.std.proofs.Common.{◌≢◌, ◌⊎◌, inl, inr, ⊎_elim, ℕ, ◌+◌, ◌*◌, List, length, map, refl, arith}
use Rattle.std.specs.Prelude.{Contains}
use Rattle.std.proofs.lemmas.Bool.{cases_eq, cases_lt}
use Rattle.crowd_data.specs.declared.agent.Agent.{Agent}
use Rattle.crowd_data.specs.declared.frame.Mark.{Mark}
use Rattle.crowd_data.specs.declared.frame.Mark.TheVariants.{Crowded}
use Rattle.crowd_data.specs.declared.pair.Place.{Place}
use Rattle.crowd_data.specs.Advice.{IsCrowded, IsMarked, neighbours_of, place_of}
use Rattle.crowd_data.specs.Neighbours.{IsNear, MissesNear, place_at, squared_gap}
use Rattle.crowd_data.proofs.Sight.{contains_or_not}
use Rattle.exact_algebra.proofs.FirstNumber.{first_below}

near_or_not : (a b : Place) → IsNear a b ⊎ ¬ IsNear a b
near_or_not a b =
    let r = a.radius + b.radius + a.speed + b.speed in
    ⊎_elim (λ far. inr (λ near. omega (arith, far, near))) (λ near. inl near) (cases_lt (r * r) (squared_gap a.pos b.pos))

module _ (places : List Place) (who : ℕ) (seen : List ℕ) where
  -- another one that is near isn't seen
  abbrev IsMissed : ℕ → Type 0
  IsMissed other = (other ≢ who) × IsNear (place_at places who) (place_at places other) × ¬ Contains seen other

  missed_or_not : (other : ℕ) → ¬ IsMissed other ⊎ IsMissed other
  missed_or_not other = ⊎_elim
      (λ itself. inl (λ missed. missed.0 itself))
      (λ another. ⊎_elim
      (λ near. ⊎_elim (λ is. inl (λ missed. missed.2 is)) (λ unseen. inr (another, near, unseen)) (contains_or_not seen other))
      (λ far. inl (λ missed. far missed.1))
      (near_or_not (place_at places who) (place_at places other)))
      (cases_eq other who)

  misses_or_not : MissesNear places who seen ⊎ ¬ MissesNear places who seen
  misses_or_not = ⊎_elim
      (λ none. inr (λ (other, below, another, near, unseen). none other below (another, near, unseen)))
      (λ (other, below, least, missed). inl (other, below, missed.0, missed.1, missed.2))
      (first_below (λ other. ¬ IsMissed other) IsMissed missed_or_not (length places))

pub crowded_or_not : (crowd : List Agent) (who : ℕ) → IsCrowded crowd who ⊎ ¬ IsCrowded crowd who
crowded_or_not crowd who = misses_or_not (map place_of crowd) who (neighbours_of crowd who)

-- there is a mark for each agent
pub some_mark : (crowd : List Agent) (who : ℕ) (plain : Mark) → (mark : Mark) × IsMarked crowd who plain mark
some_mark crowd who plain = ⊎_elim
    (λ crowded. (Crowded, record { when_crowded = λ h. refl; otherwise = λ not. absurd (not crowded) }))
    (λ roomy. (plain, record { when_crowded = λ crowded. absurd (roomy crowded); otherwise = λ not. refl }))
    (crowded_or_not crowd who)
