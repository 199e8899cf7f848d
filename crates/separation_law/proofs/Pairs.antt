-- The laws of pairs.
use Rattle.std.proofs.Common.{◌≡◌, ℕ, refl, [], ◌∷◌, Bool, true, false, cond, sym, subst, ap, arith, ℤ, pos, neg_ℤ, ◌+ℤ◌, ◌-ℤ◌, ◌*ℤ◌, ◌≤ℤ◌, ◌<ℤ◌, unsigned_abs}
use Rattle.std.proofs.lemmas.Int.{ints}
use Rattle.std.specs.Prelude.{int_lt}
use Rattle.exact_algebra.proofs.Order.{square_nonneg, sum_nonneg}
use Rattle.exact_algebra.proofs.Ring.{equal, quotes}
use Rattle.exact_algebra.proofs.Rounding.{ceil_root_reaches, floor_root_le}
use Rattle.exact_algebra.proofs.Tests.{both_of, lt_is_false, lt_true}
use Rattle.fixed_vec.specs.declared.vector.V2.{V2}
use Rattle.fixed_vec.specs.Vector.{cross, dot, minus, plus, square, times}
use Rattle.fixed_vec.specs.HalfPlane.{Plane, whole_length}
use Rattle.fixed_vec.specs.Point.{IsIn, whole}
use Rattle.crowd_data.specs.declared.pair.Disc.{Disc}
use Rattle.crowd_data.specs.declared.pair.Region.{Region}
use Rattle.crowd_data.specs.declared.pair.Region.TheVariants.{Arc, Left, Right, Overlap}
use Rattle.crowd_data.specs.Pairs.{IsPair, from_cutoff, higher_share, is_arc, combined_radius, leg_length, lower_share, relative_position, overlap_normal, region_of, relative_in, relative_plane}
use Rattle.crowd_data.specs.Safety.{ApartThroughout, IsApart}
use Rattle.crowd_data.proofs.PairNormals.{overlap_normal-nonzero}
use Rattle.separation_law.proofs.Borders.{arc_way, leg_way, overlap_end}
use Rattle.separation_law.proofs.Shares.{shares_add}
use Rattle.separation_law.proofs.Ways.{StaysOutside, apart_throughout, part_of_way}

-- of two discs that are apart, a fact of the region holds where it holds of the arc and of each leg
region_apart : (low high : Disc) (tau : ℕ) (P : Region → Type 0) → IsApart low.pos high.pos (combined_radius low high)
    → (is_arc low high tau ≡ true → P Arc) → P Left → P Right → P (region_of low high tau)
region_apart low high tau P apart arc left right =
    let legs : Region = cond (int_lt (pos 0) (cross (relative_position low high) (from_cutoff low high tau))) Left Right in
    subst (λ a. P (cond a Overlap (cond (is_arc low high tau) Arc legs))) (sym (lt_is_false _ _ apart))
    (by (is_arc low high tau) refl (int_lt (pos 0) (cross (relative_position low high) (from_cutoff low high tau))))
  where
    by : (b : Bool) → is_arc low high tau ≡ b → (c : Bool) → P (cond b Arc (cond c Left Right))
    by true f c = arc f
    by false f true = left
    by false f false = right

-- a whole velocity in a half-plane
pub along_plane : (plane : Plane) (v : V2) → IsIn plane (whole v) → plane.c ≤ℤ dot plane.n v
along_plane plane v inside = omega (arith, ints)

pub length_reaches : (n : V2) → square n ≤ℤ (pos (whole_length n) *ℤ pos (whole_length n))
length_reaches n = omega (arith, ints, sum_nonneg _ _ (square_nonneg n.x) (square_nonneg n.y), ceil_root_reaches (unsigned_abs (square n)))

some_radius : (low high : Disc) (tau : ℕ) → IsPair low high tau → pos 0 <ℤ combined_radius low high
some_radius low high tau h = omega (arith, ints, h.some_low_radius)

-- the arc, the left and the right leg: each relative velocity of the half-plane keeps the way of the horizon outside
pub arc_apart : (low high : Disc) (tau : ℕ) (v : V2) → IsPair low high tau → is_arc low high tau ≡ true → IsIn (relative_in low high tau Arc) (whole v)
    → StaysOutside (relative_position low high) (times (pos tau) v) (combined_radius low high)
arc_apart low high tau v h arc inside =
    let W = from_cutoff low high tau in
    let parts = both_of _ _ arc in
    arc_way W (relative_position low high) v (combined_radius low high) (pos (whole_length W)) (pos tau) (lt_true _ _ parts.0) (lt_true _ _ parts.1)
    (omega (arith, ints, h.some_tau)) (omega (arith, ints)) (omega (arith, ints)) (length_reaches W) (along_plane (relative_in low high tau Arc) v inside)

-- the leg, rounded down, is no longer than the real one
leg_short : (low high : Disc) → IsApart low.pos high.pos (combined_radius low high)
    → (leg_length low high *ℤ leg_length low high +ℤ combined_radius low high *ℤ combined_radius low high) ≤ℤ square (relative_position low high)
leg_short low high apart =
    let R = combined_radius low high in
    omega (arith, ints, floor_root_le (unsigned_abs (square (relative_position low high) -ℤ R *ℤ R)))

pub left_apart : (low high : Disc) (tau : ℕ) (v : V2) → IsPair low high tau → IsApart low.pos high.pos (combined_radius low high) → IsIn (relative_in low high tau Left) (whole v)
    → StaysOutside (relative_position low high) (times (pos tau) v) (combined_radius low high)
left_apart low high tau v h apart inside =
    leg_way (relative_position low high) v (combined_radius low high) (leg_length low high) (pos tau) (some_radius low high tau h) apart (leg_short low high apart)
    (omega (arith, ints)) (along_plane (relative_in low high tau Left) v inside)

pub right_apart : (low high : Disc) (tau : ℕ) (v : V2) → IsPair low high tau → IsApart low.pos high.pos (combined_radius low high) → IsIn (relative_in low high tau Right) (whole v)
    → StaysOutside (relative_position low high) (times (pos tau) v) (combined_radius low high)
right_apart low high tau v h apart inside =
    let l = leg_length low high in
    let same : neg_ℤ l *ℤ neg_ℤ l ≡ l *ℤ l = equal (l ∷ []) (search quotes depth 30) tt in
    leg_way (relative_position low high) v (combined_radius low high) (neg_ℤ l) (pos tau) (some_radius low high tau h) apart
    (subst (λ z. (z +ℤ combined_radius low high *ℤ combined_radius low high) ≤ℤ square (relative_position low high)) (sym same) (leg_short low high apart))
    (omega (arith, ints)) (along_plane (relative_in low high tau Right) v inside)

-- each relative velocity of the half-plane keeps two discs that are apart so for the horizon
pub relative_apart : (low high : Disc) (tau : ℕ) (v : V2) → IsPair low high tau → IsApart low.pos high.pos (combined_radius low high) → IsIn (relative_plane low high tau) (whole v)
    → StaysOutside (relative_position low high) (times (pos tau) v) (combined_radius low high)
relative_apart low high tau v h apart =
    region_apart low high tau (λ region. IsIn (relative_in low high tau region) (whole v) → StaysOutside (relative_position low high) (times (pos tau) v) (combined_radius low high)) apart
    (arc_apart low high tau v h) (left_apart low high tau v h apart) (right_apart low high tau v h apart)

spread : (t a b : ℤ) → t *ℤ (a -ℤ b) ≡ t *ℤ a -ℤ t *ℤ b
spread t a b = equal (t ∷ a ∷ b ∷ []) (search quotes depth 40) tt

-- t times a difference
times_minus : (t : ℤ) (u w : V2) → times t (minus u w) ≡ minus (times t u) (times t w)
times_minus t u w = λ i. record { x = spread t u.x w.x i; y = spread t u.y w.y i }

-- the horizon law
pub horizon_apart : (low high : Disc) (tau a b : ℕ) (low_vel high_vel : V2) → IsPair low high tau → IsApart low.pos high.pos (combined_radius low high)
    → IsIn (lower_share low high tau a b) (whole low_vel) → IsIn (higher_share low high tau a b) (whole high_vel)
    → ApartThroughout low.pos (times (pos tau) low_vel) high.pos (times (pos tau) high_vel) (combined_radius low high)
horizon_apart low high tau a b low_vel high_vel h apart in_lower in_higher =
    apart_throughout low.pos (times (pos tau) low_vel) high.pos (times (pos tau) high_vel) (combined_radius low high)
    (subst (λ v. StaysOutside (relative_position low high) v (combined_radius low high)) (times_minus (pos tau) low_vel high_vel)
    (relative_apart low high tau (minus low_vel high_vel) h apart (shares_add low high tau a b low_vel high_vel in_lower in_higher)))

-- the law of pairs, for the one step
pub step_apart : (low high : Disc) (tau a b : ℕ) (low_vel high_vel : V2) → IsPair low high tau → IsApart low.pos high.pos (combined_radius low high)
    → IsIn (lower_share low high tau a b) (whole low_vel) → IsIn (higher_share low high tau a b) (whole high_vel)
    → ApartThroughout low.pos low_vel high.pos high_vel (combined_radius low high)
step_apart low high tau a b low_vel high_vel h apart in_lower in_higher =
    apart_throughout low.pos low_vel high.pos high_vel (combined_radius low high)
    (part_of_way (relative_position low high) (minus low_vel high_vel) (combined_radius low high) (pos tau) (omega (arith, ints, h.some_tau))
    (relative_apart low high tau (minus low_vel high_vel) h apart (shares_add low high tau a b low_vel high_vel in_lower in_higher)))

lt_unless : (a b : ℤ) → ¬ (b ≤ℤ a) → int_lt a b ≡ true
lt_unless a b h = grind (arith, ints)

-- discs that aren't apart overlap
region_overlap : (low high : Disc) (tau : ℕ) → ¬ IsApart low.pos high.pos (combined_radius low high) → region_of low high tau ≡ Overlap
region_overlap low high tau h =
    let rest : Region = cond (is_arc low high tau) Arc (cond (int_lt (pos 0) (cross (relative_position low high) (from_cutoff low high tau))) Left Right) in
    ap (λ a. cond a Overlap rest) (lt_unless (square (relative_position low high)) (combined_radius low high *ℤ combined_radius low high) h)

dot-minus : (n u w : V2) → dot n (minus u w) ≡ dot n u -ℤ dot n w
dot-minus n u w = equal (n.x ∷ n.y ∷ u.x ∷ u.y ∷ w.x ∷ w.y ∷ []) (search quotes depth 40 fits 20000) tt

-- what is held off by n beyond p is at least R off
parted : (n p v : V2) (R : ℤ) → pos 0 <ℤ square n → pos 0 ≤ℤ R → (dot n p +ℤ R *ℤ pos (whole_length n)) ≤ℤ dot n v → (R *ℤ R) ≤ℤ square (minus v p)
parted n p v R some hR meets =
    let split = dot-minus n v p in
    overlap_end n (minus v p) R (pos (whole_length n)) some hR (omega (arith, ints)) (length_reaches n) (omega (arith, ints))

-- each relative velocity of the half-plane takes two discs that overlap apart within the step
pub relative_parts : (low high : Disc) (tau : ℕ) (v : V2) → ¬ IsApart low.pos high.pos (combined_radius low high) → IsIn (relative_plane low high tau) (whole v)
    → (combined_radius low high *ℤ combined_radius low high) ≤ℤ square (minus v (relative_position low high))
relative_parts low high tau v overlap inside =
    parted (overlap_normal low high) (relative_position low high) v (combined_radius low high) (overlap_normal-nonzero low high) (omega (arith, ints))
    (along_plane (relative_in low high tau Overlap) v (subst (λ region. IsIn (relative_in low high tau region) (whole v)) (region_overlap low high tau overlap) inside))

-- where two discs end up, seen from each other
end_offset : (a b u w : V2) → square (minus (minus u w) (minus b a)) ≡ square (minus (plus b w) (plus a u))
end_offset a b u w = equal (a.x ∷ a.y ∷ b.x ∷ b.y ∷ u.x ∷ u.y ∷ w.x ∷ w.y ∷ []) (search quotes depth 60 fits 80000) tt

-- the law of pairs that overlap
pub end_apart : (low high : Disc) (tau a b : ℕ) (low_vel high_vel : V2) → ¬ IsApart low.pos high.pos (combined_radius low high)
    → IsIn (lower_share low high tau a b) (whole low_vel) → IsIn (higher_share low high tau a b) (whole high_vel)
    → IsApart (plus low.pos low_vel) (plus high.pos high_vel) (combined_radius low high)
end_apart low high tau a b low_vel high_vel overlap in_lower in_higher =
    subst (λ z. (combined_radius low high *ℤ combined_radius low high) ≤ℤ z) (end_offset low.pos high.pos low_vel high_vel)
    (relative_parts low high tau (minus low_vel high_vel) overlap (shares_add low high tau a b low_vel high_vel in_lower in_higher))
