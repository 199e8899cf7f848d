-- The normals of the legs: l*perp(p) - r*p for p = (x, y).
use Rattle.std.proofs.Common.{◌≡◌, ℕ, ◌+◌, ◌^◌, ◌<◌, ◌≤◌, [], ◌∷◌, subst, arith, ℤ, pos, neg_ℤ, ◌+ℤ◌, ◌-ℤ◌, ◌*ℤ◌, ◌≤ℤ◌, ◌<ℤ◌, unsigned_abs, mul-le-mul}
use Rattle.std.proofs.lemmas.Int.{ints}
use Rattle.exact_algebra.proofs.Ring.{quotes, equal, shown}
use Rattle.exact_algebra.proofs.Order.{square_nonneg, product_nonneg, sum_nonneg, gap_nonneg}
use Rattle.exact_algebra.proofs.Rounding.{floor_root_le}
use Rattle.exact_algebra.proofs.Sizes.{root_lt}
use Rattle.fixed_vec.specs.declared.vector.V2.{V2}
use Rattle.fixed_vec.specs.Vector.{minus, perp, square, times}
use Rattle.fixed_vec.proofs.Squares.{square_whole}
use Rattle.crowd_data.specs.declared.pair.Disc.{Disc}
use Rattle.crowd_data.specs.declared.pair.Region.TheVariants.{Left, Right}
use Rattle.crowd_data.specs.Pairs.{IsPair, combined_radius, leg_length, leg_normal, relative_position, relative_in}
use Rattle.pair_plane.proofs.Regions.{NoOverlap}
use Rattle.pair_plane.specs.Sized.{Sized}

-- a leg's normal for any length
abbrev pub turned : V2 → ℤ → ℤ → V2
turned p r l = minus (times l (perp p)) (times r p)

turned_nonzero : (p : V2) (r l : ℤ) → pos 1 ≤ℤ (r *ℤ r) → (r *ℤ r) ≤ℤ square p → pos 0 <ℤ square (turned p r l)
turned_nonzero p r l hr far =
    let x = p.x in let y = p.y in
    let pp : pos 0 ≤ℤ square p = sum_nonneg _ _ (square_nonneg x) (square_nonneg y) in
    let some : pos 0 ≤ℤ (square p -ℤ pos 1) = omega (arith, ints) in
    let least : pos 1 ≤ℤ square (turned p r l) = shown (p.x ∷ p.y ∷ r ∷ l ∷ [])
    (sum_nonneg _ _ (product_nonneg (l *ℤ l) (square p) (square_nonneg l) pp) (sum_nonneg _ _ (product_nonneg (r *ℤ r -ℤ pos 1) (square p) (gap_nonneg _ _ hr) pp) some))
    (search quotes depth 60 fits 80000) tt in
    omega (arith, ints)

-- it is no longer than p is squared
turned_le : (p : V2) (r l : ℤ) → (l *ℤ l +ℤ r *ℤ r) ≤ℤ square p → square (turned p r l) ≤ℤ (square p *ℤ square p)
turned_le p r l close =
    shown (p.x ∷ p.y ∷ r ∷ l ∷ [])
    (product_nonneg (square p) (square p -ℤ (l *ℤ l +ℤ r *ℤ r)) (sum_nonneg _ _ (square_nonneg p.x) (square_nonneg p.y)) (gap_nonneg _ _ close))
    (search quotes depth 60 fits 80000) tt

below_square : (z q : ℤ) (k : ℕ) → q ≡ pos k → q <ℤ pos (2 ^ 32) → z ≤ℤ (q *ℤ q) → z <ℤ pos (2 ^ 64)
below_square z q k e h b =
    let m : k ≤ 4294967295 = omega (arith, ints) in
    let f : z ≤ℤ (pos k *ℤ pos k) = subst (λ t. z ≤ℤ (t *ℤ t)) e b in
    omega (arith, ints, mul-le-mul m m)

turned_sized : (low high : Disc) (tau : ℕ) (l : ℤ) → IsPair low high tau → NoOverlap low high
    → (l *ℤ l +ℤ combined_radius low high *ℤ combined_radius low high) ≤ℤ square (relative_position low high)
    → Sized (record { n = leg_normal low high l; c = pos 0 }) 131072
turned_sized low high tau l h apart close =
    let p = relative_position low high in
    let some : 1 ≤ low.radius + high.radius = omega (arith, h.some_low_radius) in
    record {
      nonzero = turned_nonzero p (combined_radius low high) l (omega (arith, ints, mul-le-mul some some)) apart;
      normal = below_square _ (square p) (unsigned_abs (square p)) (square_whole p) h.near (turned_le p (combined_radius low high) l close);
      offset = omega arith;
    }

-- the leg, rounded down, is no longer than the real one
leg_le : (low high : Disc) → NoOverlap low high
    → (leg_length low high *ℤ leg_length low high +ℤ combined_radius low high *ℤ combined_radius low high) ≤ℤ square (relative_position low high)
leg_le low high apart =
    let R = combined_radius low high in
    omega (arith, ints, floor_root_le (unsigned_abs (square (relative_position low high) -ℤ R *ℤ R)))

pub left_sized : (low high : Disc) (tau : ℕ) → IsPair low high tau → NoOverlap low high → Sized (relative_in low high tau Left) 131072
left_sized low high tau h apart = turned_sized low high tau (leg_length low high) h apart (leg_le low high apart)

pub right_sized : (low high : Disc) (tau : ℕ) → IsPair low high tau → NoOverlap low high → Sized (relative_in low high tau Right) 131072
right_sized low high tau h apart = turned_sized low high tau (neg_ℤ (leg_length low high)) h apart
    (let k = leg_le low high apart in
    let e : neg_ℤ (leg_length low high) *ℤ neg_ℤ (leg_length low high) ≡ leg_length low high *ℤ leg_length low high = equal (leg_length low high ∷ []) (search quotes depth 30) tt in
    omega (arith, ints))

-- and as a number
pub leg_small : (low high : Disc) (tau : ℕ) → IsPair low high tau → unsigned_abs (leg_length low high) < 2 ^ 17
leg_small low high tau h =
    let R = combined_radius low high in
    let r : low.radius + high.radius ≤ 65536 = omega (arith, h.low_radius, h.high_radius) in
    let f = floor_root_le (unsigned_abs (square (relative_position low high) -ℤ R *ℤ R)) in
    root_lt (unsigned_abs (leg_length low high)) (2 ^ 17) (omega (arith, ints, h.near, square_whole (relative_position low high), mul-le-mul r r))
