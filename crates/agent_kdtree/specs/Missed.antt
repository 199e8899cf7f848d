-- A near agent that a list misses.
use Rattle.std.specs.Prelude.{◌≢◌, ℕ, List, Contains}
use Rattle.crowd_data.specs.declared.pair.Place.{Place}
use Rattle.crowd_data.specs.Neighbours.{IsNear, place_at}

-- another near agent that is not in a list of numbers
abbrev pub IsMissed : List Place → ℕ → List ℕ → ℕ → Type 0
IsMissed places who seen other = (other ≢ who) × IsNear (place_at places who) (place_at places other) × ¬ Contains seen other
