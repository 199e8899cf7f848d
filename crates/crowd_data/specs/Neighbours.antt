-- Whom an agent sees: its neighbours, and the near agents that it must not miss.
use Rattle.std.specs.Prelude.{◌≢◌, ℕ, zero, suc, ◌+◌, ◌*◌, ◌<◌, ◌≤◌, unsigned_abs, Bool, ◌&&◌, ◌||◌, ◌==◌, not, nat_lt, if◌then◌else◌, List, [], ◌∷◌, ◌++◌, map, take, length, slice_index_or, Contains}
use Rattle.std.specs.List.{filter}
use Rattle.fixed_vec.specs.declared.vector.V2.{V2}
use Rattle.fixed_vec.specs.Vector.{minus, square, zero_vector}
use Rattle.crowd_data.specs.declared.pair.Place.{Place}

-- the squared distance of two whole points
abbrev pub squared_gap : V2 → V2 → ℕ
squared_gap a b = unsigned_abs (square (minus a b))

-- who stands at place k, if any
abbrev pub nowhere : Place
nowhere = record { pos = zero_vector; radius = 0; speed = 0 }

abbrev pub place_at : List Place → ℕ → Place
place_at places k = slice_index_or places k nowhere

-- the numbers 0, 1 and so on, below n
abbrev pub numbers : ℕ → List ℕ
numbers zero = []
numbers (suc n) = numbers n ++ n ∷ []

-- an agent as another one sees it: its number and its squared distance
pub record Seen : Type 0 where
  pub agent : ℕ
  pub dist : ℕ

abbrev pub seen_from : List Place → ℕ → ℕ → Seen
seen_from places who k = record { agent = k; dist = squared_gap (place_at places k).pos (place_at places who).pos }

-- another agent, nearer than the range
abbrev pub is_in_range : ℕ → ℕ → Seen → Bool
is_in_range who range seen = not (seen.agent == who) && nat_lt seen.dist (range * range)

-- nearer, or as near and with the lower number
abbrev pub is_before : Seen → Seen → Bool
is_before a b = nat_lt a.dist b.dist || ((a.dist == b.dist) && nat_lt a.agent b.agent)

-- put before the first one that it comes before
abbrev pub placed_in : Seen → List Seen → List Seen
placed_in a [] = a ∷ []
placed_in a (b ∷ bs) = if is_before a b then a ∷ b ∷ bs else b ∷ placed_in a bs

-- in the order of squared distance and then of number
abbrev pub in_order : List Seen → List Seen
in_order [] = []
in_order (a ∷ rest) = placed_in a (in_order rest)

-- the neighbours of an agent: the others in range, in order, the first `most` of them
abbrev pub neighbours : List Place → ℕ → ℕ → ℕ → List Seen
neighbours places who range most =
    take most (in_order (filter (is_in_range who range) (map (seen_from places who) (numbers (length places)))))

-- two agents are near: within one step they could touch
abbrev pub IsNear : Place → Place → Type 0
IsNear a b = squared_gap a.pos b.pos ≤ (a.radius + b.radius + a.speed + b.speed) * (a.radius + b.radius + a.speed + b.speed)

-- some other near agent is not in a list of numbers
abbrev pub MissesNear : List Place → ℕ → List ℕ → Type 0
MissesNear places who seen =
    (other : ℕ) × (other < length places) × (other ≢ who) × IsNear (place_at places who) (place_at places other) × ¬ Contains seen other
