-- Neighbours from candidates, one at a time.
use Rattle.std.specs.Prelude.{ℕ, ◌≤◌, ◌^◌, if◌then◌else◌, List, [], ◌∷◌, map, take, length}
use Rattle.std.specs.List.{filter}
use Rattle.fixed_vec.specs.declared.vector.V2.{V2}
use Rattle.fixed_vec.specs.Vector.{IsBelow}
use Rattle.crowd_data.specs.declared.limits.TheConstants.{GREATEST_RANGE, MOST_NEIGHBOURS}
use Rattle.crowd_data.specs.declared.pair.Place.{Place}
use Rattle.crowd_data.specs.Neighbours.{Seen, in_order, is_in_range, numbers, place_at, placed_in, squared_gap}
use Rattle.agent_kdtree.specs.declared.query.Query.{Query}

-- a query within the limits
pub record IsQuery (q : Query) : Type 0 where
  pub at : IsBelow q.at (2 ^ 31)
  pub range : q.range ≤ GREATEST_RANGE
  pub most : q.most ≤ MOST_NEIGHBOURS

-- agent k as it is seen from a point
abbrev pub seen_at : List Place → V2 → ℕ → Seen
seen_at places at k = record { agent = k; dist = squared_gap (place_at places k).pos at }

-- the neighbours that a query asks for
abbrev pub best_of : List Place → Query → List Seen
best_of places q = take q.most (in_order (filter (is_in_range q.who q.range) (map (seen_at places q.at) (numbers (length places)))))

-- one more candidate
unfoldable pub offer : List Place → Query → ℕ → List Seen → List Seen
offer places q k best =
    if is_in_range q.who q.range (seen_at places q.at k) then take q.most (placed_in (seen_at places q.at k) best) else best

-- candidates one after another
abbrev pub gather : List Place → Query → List ℕ → List Seen → List Seen
gather places q [] best = best
gather places q (k ∷ ks) best = gather places q ks (offer places q k best)

-- squared distances that never fall
abbrev pub AtLeast : ℕ → List Seen → Type 0
AtLeast d [] = Unit {0}
AtLeast d (x ∷ xs) = (d ≤ x.dist) × AtLeast d xs

abbrev pub Rises : List Seen → Type 0
Rises [] = Unit {0}
Rises (x ∷ xs) = AtLeast x.dist xs × Rises xs
