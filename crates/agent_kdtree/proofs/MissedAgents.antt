-- Near agents that a list misses, and boxes that show that there are none.
use Rattle.std.proofs.Common.{◌≡◌, ℕ, ◌+◌, ◌*◌, ◌<◌, ◌≤◌, List, length, arith, mul-le-mul}
use Rattle.std.proofs.lemmas.List.Elements.{All-contains, All-weaker}
use Rattle.std.proofs.lemmas.List.Sorted.{All-permutation, IsPermutation-sym}
use Rattle.std.specs.List.{All}
use Rattle.std.specs.List.Sorted.{IsPermutation}
use Rattle.crowd_data.specs.declared.pair.Place.{Place}
use Rattle.crowd_data.specs.Neighbours.{IsNear, MissesNear, numbers, place_at, squared_gap}
use Rattle.agent_kdtree.specs.declared.bounds.Bounds.{Bounds}
use Rattle.agent_kdtree.specs.Boxes.{Covers}
use Rattle.agent_kdtree.specs.Missed.{IsMissed}
use Rattle.crowd_data.proofs.Sight.{squared_gap-comm}
use Rattle.agent_kdtree.proofs.Stands.{numbers-contain}

-- a place whose box is farther than all arms together
pub not_near : (a b : Place) (touching far : ℕ) (box : Bounds) → Covers box b → touching ≡ box.greatest_reach + (a.radius + a.speed)
    → touching * touching < far → far ≤ squared_gap b.pos a.pos → ¬ IsNear a b
not_near a b touching far box c e t h = λ near.
    let arms : a.radius + b.radius + a.speed + b.speed ≤ touching = omega (arith, c.greatest_reach) in
    let squares = mul-le-mul arms arms in
    let far_off = rw (squared_gap-comm b.pos a.pos) at h in
    omega (arith, squares, far_off, near)

-- below a node that is out of reach
pub none_missed : (places : List Place) (who : ℕ) (seen order : List ℕ) → All (λ k. ¬ IsNear (place_at places who) (place_at places k)) order
    → All (λ k. ¬ IsMissed places who seen k) order
none_missed places who seen order h =
    All-weaker (λ k. ¬ IsNear (place_at places who) (place_at places k)) (λ k. ¬ IsMissed places who seen k) (λ k f m. f m.1) order h

-- none among all numbers, in whatever order
pub misses_none : (places : List Place) (who : ℕ) (seen order : List ℕ) → IsPermutation (numbers (length places)) order
    → All (λ k. ¬ IsMissed places who seen k) order → ¬ MissesNear places who seen
misses_none places who seen order p h = λ m.
    let all = All-permutation (λ k. ¬ IsMissed places who seen k) order (numbers (length places)) (IsPermutation-sym _ _ p) h in
    All-contains (λ k. ¬ IsMissed places who seen k) (numbers (length places)) m.0 all (numbers-contain (length places) m.0 m.1) (m.2, m.3, m.4)
