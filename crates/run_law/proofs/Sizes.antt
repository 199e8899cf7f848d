-- What limits and sizes are worth.
use Rattle.std.proofs.Common.{◌≡◌, ◌<◌, ◌≤◌, ◌+◌, ◌*◌, ◌^◌, ℕ, [], ◌∷◌, arith, ℤ, pos, neg_ℤ, ◌+ℤ◌, ◌*ℤ◌, ◌≤ℤ◌, ◌<ℤ◌, unsigned_abs}
use Rattle.std.proofs.lemmas.Int.{by_lt_z, ints}
use Rattle.std.proofs.Math.Nat.{mul-le-mul}
use Rattle.exact_algebra.proofs.Ring.{quotes, shown}
use Rattle.exact_algebra.proofs.Order.{square_nonneg, sum_nonneg, gap_nonneg}
use Rattle.exact_algebra.proofs.Sizes.{whole_root_le}
use Rattle.fixed_vec.specs.declared.vector.V2.{V2}
use Rattle.fixed_vec.specs.Vector.{square, times}
use Rattle.crowd_data.specs.Limits.{IsVelocity}
use Rattle.crowd_data.specs.declared.limits.TheConstants.{GREATEST_RANGE, GREATEST_SPEED}

-- below the square of a range within its limit
pub near_square : (z : ℤ) (range : ℕ) → unsigned_abs z < range * range → range ≤ GREATEST_RANGE → z <ℤ pos (2 ^ 32)
near_square z range h limit = let l = mul-le-mul limit limit in omega (arith, ints, l)

-- what overlaps is near, as speeds only add to the radii
pub overlap_near : (z : ℤ) (r s u v : ℕ) → ¬ ((pos (r + s) *ℤ pos (r + s)) ≤ℤ z) → pos 0 ≤ℤ z → unsigned_abs z ≤ (r + s + u + v) * (r + s + u + v)
overlap_near z r s u v over some =
    let more : (r + s) ≤ (r + s + u + v) = omega arith in
    let l = mul-le-mul more more in
    by_lt_z z (pos (r + s) *ℤ pos (r + s)) (λ less. omega (arith, ints, l, less)) (λ not_less. absurd (over not_less))

-- one step with a velocity
pub times_one : (v : V2) → v ≡ times (pos 1) v
times_one v =
    let x : v.x ≡ pos 1 *ℤ v.x = omega (arith, ints) in
    let y : v.y ≡ pos 1 *ℤ v.y = omega (arith, ints) in
    λ i. record { x = x i; y = y i }

-- a coordinate is no longer than the vector
coordinate_within : (x y : ℤ) (s : ℕ) → (x *ℤ x +ℤ y *ℤ y) ≤ℤ (pos s *ℤ pos s) → unsigned_abs x ≤ s
coordinate_within x y s short =
    let some : pos 0 ≤ℤ pos s = omega (arith, ints) in
    let high = whole_root_le x (pos s) some (shown (x ∷ y ∷ pos s ∷ []) (sum_nonneg _ _ (gap_nonneg _ _ short) (square_nonneg y)) (search quotes depth 40 fits 20000) tt) in
    let low = whole_root_le (neg_ℤ x) (pos s) some (shown (x ∷ y ∷ pos s ∷ []) (sum_nonneg _ _ (gap_nonneg _ _ short) (square_nonneg y)) (search quotes depth 40 fits 20000) tt) in
    omega (arith, ints, high, low)

-- what keeps a speed within its limit is a velocity
pub slow_velocity : (v : V2) (speed : ℕ) → square v ≤ℤ (pos speed *ℤ pos speed) → speed ≤ GREATEST_SPEED → IsVelocity v
slow_velocity v speed slow limit =
    let x = coordinate_within v.x v.y speed slow in
    let y = coordinate_within v.y v.x speed (omega (arith, ints)) in
    (omega arith, omega arith)
