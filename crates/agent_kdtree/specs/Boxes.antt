-- The nodes of a tree over places, by halves, with a box for each.
use Rattle.std.specs.Prelude.{ℕ, zero, suc, ◌+◌, ◌-◌, ◌*◌, ◌/◌, ◌^◌, ◌<◌, ◌≤◌, ◌≤ℤ◌, List, take, drop, length, slice_index_or}
use Rattle.std.specs.List.{All}
use Rattle.fixed_vec.specs.declared.vector.V2.{V2}
use Rattle.fixed_vec.specs.Vector.{IsBelow, zero_vector}
use Rattle.crowd_data.specs.declared.limits.TheConstants.{GREATEST_RADIUS, GREATEST_SPEED}
use Rattle.crowd_data.specs.declared.pair.Place.{Place}
use Rattle.crowd_data.specs.Neighbours.{place_at}
use Rattle.agent_kdtree.specs.declared.bounds.Bounds.{Bounds}

-- corners within the limits of places, and no greater reach than theirs: a reach is a radius and a speed
pub record IsBounds (b : Bounds) : Type 0 where
  pub low : IsBelow b.low (2 ^ 31)
  pub high : IsBelow b.high (2 ^ 31)
  pub greatest_reach : b.greatest_reach ≤ GREATEST_RADIUS + GREATEST_SPEED

pub record IsNoHigher (a b : V2) : Type 0 where
  pub x : a.x ≤ℤ b.x
  pub y : a.y ≤ℤ b.y

pub record IsInBounds (b : Bounds) (v : V2) : Type 0 where
  pub left : b.low.x ≤ℤ v.x
  pub right : v.x ≤ℤ b.high.x
  pub below : b.low.y ≤ℤ v.y
  pub above : v.y ≤ℤ b.high.y

-- what a box says of a place
pub record Covers (b : Bounds) (p : Place) : Type 0 where
  pub within : IsInBounds b p.pos
  pub greatest_reach : p.radius + p.speed ≤ b.greatest_reach

abbrev pub CoversAll : Bounds → List Place → List ℕ → Type 0
CoversAll b places order = All (λ k. Covers b (place_at places k)) order

-- the box of a node, if any
abbrev pub no_bounds : Bounds
no_bounds = record { low = zero_vector; high = zero_vector; greatest_reach = 0 }

abbrev pub box_at : List Bounds → ℕ → Bounds
box_at boxes k = slice_index_or boxes k no_bounds

-- the most places of a leaf
abbrev pub leaf_places : ℕ
leaf_places = 10

-- the boxes of the lower and of the upper half of a node of n places
abbrev pub lower_boxes : ℕ → ℕ
lower_boxes n = 2 * (n / 2) / 5 - 1

abbrev pub lower : List Bounds → ℕ → List Bounds
lower boxes n = take (lower_boxes n) (drop 1 boxes)

abbrev pub upper : List Bounds → ℕ → List Bounds
upper boxes n = drop (lower_boxes n) (drop 1 boxes)

-- enough boxes for n places
pub record IsEnough (n b : ℕ) : Type 0 where
  pub some : 0 < b
  pub rest : 2 * n / 5 ≤ b + 1

-- the boxes of the topmost levels cover their places, so many levels deep
abbrev pub CoveredTo : ℕ → List Place → List ℕ → List Bounds → Type 0
CoveredTo zero places order boxes = Unit {0}
CoveredTo (suc depth) places order boxes = IsBounds (box_at boxes 0) × CoversAll (box_at boxes 0) places order
    × (leaf_places < length order → CoveredTo depth places (take (length order / 2) order) (lower boxes (length order)) × CoveredTo depth places (drop (length order / 2) order) (upper boxes (length order)))

-- each node's box covers its places
pub record IsCovered (places : List Place) (order : List ℕ) (boxes : List Bounds) : Type 0 where
  pub at : (depth : ℕ) → CoveredTo depth places order boxes

-- a node: numbers of places, and boxes for them
pub record IsNode (places : List Place) (order : List ℕ) (boxes : List Bounds) : Type 0 where
  pub numbers : All (λ k. k < length places) order
  pub enough : IsEnough (length order) (length boxes)
  pub covered : IsCovered places order boxes
