-- The half-plane of a ring's edge is within the bounds of the type.
use Rattle.std.proofs.Common.{◌≡◌, ℕ, ◌^◌, ◌<◌, ◌≤◌, List, [], ◌∷◌, arith, ℤ, pos, neg_ℤ, ◌+ℤ◌, ◌-ℤ◌, ◌*ℤ◌, ◌<ℤ◌, ◌≤ℤ◌, unsigned_abs}
use Rattle.std.proofs.lemmas.Int.{ints, by_lt_z}
use Rattle.exact_algebra.specs.Numbers.{ceil}
use Rattle.exact_algebra.proofs.Ring.{quotes, equal, shown}
use Rattle.exact_algebra.proofs.Order.{square_nonneg, product_nonneg, sum_nonneg, gap_nonneg}
use Rattle.exact_algebra.proofs.Machine.{Within, bounded, reads}
use Rattle.fixed_vec.specs.declared.vector.V2.{V2}
use Rattle.fixed_vec.specs.Vector.{cross, dot, minus, perp, square, IsBelow}
use Rattle.fixed_vec.specs.HalfPlane.{FitsPlane}
use Rattle.crowd_data.specs.RingPlanes.{edge_plane}
use Rattle.crowd_data.specs.declared.limits.TheConstants.{GREATEST_SPEED}
use Rattle.hard_plane.proofs.Sizes.{ceil_within}

abbrev edge : V2 → V2 → V2
edge p q = perp (minus q p)

-- an edge that has the origin to its left isn't nothing
edge_nonzero : (p q : V2) → pos 0 <ℤ cross p q → pos 0 <ℤ square (edge p q)
edge_nonzero p q left = by_lt_z (pos 0) (square (edge p q)) (λ h. h)
    (λ h.
    let most : (cross p q *ℤ cross p q) ≤ℤ (square (edge p q) *ℤ square p) =
    shown (p.x ∷ p.y ∷ q.x ∷ q.y ∷ []) (square_nonneg (p.x *ℤ p.x -ℤ p.x *ℤ q.x +ℤ p.y *ℤ p.y -ℤ p.y *ℤ q.y)) (search quotes depth 40 fits 20000) tt in
    let none : (square (edge p q) *ℤ square p) ≤ℤ pos 0 =
    shown (square (edge p q) ∷ square p ∷ []) (product_nonneg (pos 0 -ℤ square (edge p q)) (square p) (gap_nonneg _ _ h) (sum_nonneg _ _ (square_nonneg p.x) (square_nonneg p.y))) (search quotes depth 30) tt in
    let z : pos 0 ≤ℤ ((cross p q -ℤ pos 1) *ℤ (cross p q +ℤ pos 1)) = product_nonneg (cross p q -ℤ pos 1) (cross p q +ℤ pos 1) (omega (arith, ints)) (omega (arith, ints)) in
    let i : (cross p q -ℤ pos 1) *ℤ (cross p q +ℤ pos 1) ≡ cross p q *ℤ cross p q -ℤ pos 1 = equal (cross p q ∷ []) (search quotes depth 30) tt in
    absurd (omega (arith, ints)))

abbrev inputs : ℕ → V2 → V2 → List ℤ
inputs k p q = pos k ∷ p.x ∷ p.y ∷ q.x ∷ q.y ∷ []

abbrev limits : List ℕ
limits = GREATEST_SPEED ∷ 1024 ∷ 1024 ∷ 1024 ∷ 1024 ∷ []

within : (k : ℕ) (p q : V2) → k ≤ GREATEST_SPEED → IsBelow p 1024 → IsBelow q 1024 → Within (inputs k p q) limits
within k p q h i j = (omega (arith, ints), (omega (arith, i.0), (omega (arith, i.1), (omega (arith, j.0), (omega (arith, j.1), tt)))))

pub edge_fits : (r : ℤ) (k : ℕ) (p q : V2) → pos 0 <ℤ r → k ≤ GREATEST_SPEED → IsBelow p 1024 → IsBelow q 1024 → pos 0 <ℤ cross p q → FitsPlane (edge_plane r k p q)
edge_fits r k p q hr hk hp hq left =
    let w = within k p q hk hp hq in
    let n : unsigned_abs (square (edge p q)) < 2 ^ 60 = bounded (inputs k p q) limits (2 ^ 60) (square (edge p q)) w (search reads depth 40 fits 20000) tt in
    let z : unsigned_abs (pos k *ℤ dot (edge p q) p) < 2 ^ 40 = bounded (inputs k p q) limits (2 ^ 40) (pos k *ℤ dot (edge p q) p) w (search reads depth 40 fits 20000) tt in
    let g : pos 0 ≤ℤ (pos (2 ^ 40) *ℤ (r -ℤ pos 1)) = product_nonneg (pos (2 ^ 40)) (r -ℤ pos 1) (omega (arith, ints)) (omega (arith, ints)) in
    let e : pos (2 ^ 40) *ℤ (r -ℤ pos 1) ≡ pos (2 ^ 40) *ℤ r -ℤ pos (2 ^ 40) = equal (pos (2 ^ 40) ∷ r ∷ []) (search quotes depth 30) tt in
    let c = ceil_within (pos k *ℤ dot (edge p q) p) r (pos (2 ^ 40)) hr (omega (arith, ints)) (omega (arith, ints)) in
    record { nonzero = edge_nonzero p q left; normal = omega (arith, ints, n); offset = offset (ceil (pos k *ℤ dot (edge p q) p) r) c.0 c.1 }
  where
    offset : (z : ℤ) → neg_ℤ (pos (2 ^ 40)) ≤ℤ z → z ≤ℤ pos (2 ^ 40) → unsigned_abs z < 2 ^ 53
    offset z f g = omega (arith, ints)
