-- How long a way is, and what is left of a coordinate that is scaled to a pace.
use Rattle.std.proofs.Common.{◌≡◌, ℕ, zero, suc, ◌+◌, ◌*◌, ◌/◌, ◌^◌, ◌<◌, ◌≤◌, ℤ, pos, negsuc, neg_ℤ, ◌+ℤ◌, ◌*ℤ◌, ◌≤ℤ◌, ◌<ℤ◌, unsigned_abs, FitsSigned, to_z, of_z, to_z-of_z, [], ◌∷◌, refl, ap, ◌∙◌, subst, arith, mul-le-mul}
use Rattle.std.specs.Int.{w64, w128}
use Rattle.std.specs.Prelude.{int_div}
use Rattle.std.proofs.Math.Nat.{div-le_of_le-mul, lt_of_not-le}
use Rattle.std.proofs.lemmas.Int.{fits_signed_from_abs, fits_signed_mul, ints, quot_fits, unsigned_abs-mul}
use Rattle.exact_algebra.proofs.Machine.{computed, reads}
use Rattle.exact_algebra.proofs.Rounding.{ceil_root_first, ceil_root_reaches}
use Rattle.exact_algebra.proofs.Sizes.{root_le, square_abs}
use Rattle.fixed_vec.specs.declared.vector.V2.{V2}
use Rattle.fixed_vec.specs.HalfPlane.{whole_length}
use Rattle.fixed_vec.specs.Vector.{IsBelow, minus, square}
use Rattle.crowd_data.specs.Headings.{cut}
use Rattle.crowd_data.specs.Limits.{IsPosition, IsWithin}
use Rattle.crowd_data.specs.declared.limits.TheConstants.{GREATEST_SPEED}
use Rattle.published_frames.specs.History.{farthest}

-- ---- the squared length of a way, and its length

square_sizes : (way : V2) → square way ≡ pos (unsigned_abs way.x * unsigned_abs way.x + unsigned_abs way.y * unsigned_abs way.y)
square_sizes way = λ i. square_abs way.x i +ℤ square_abs way.y i

-- a way that one step of the pace reaches
pub within_pace : (way : V2) (pace : ℕ) → square way ≤ℤ (pos pace *ℤ pos pace) → (unsigned_abs way.x ≤ pace) × (unsigned_abs way.y ≤ pace)
within_pace way pace h =
    let e : (unsigned_abs way.x * unsigned_abs way.x + unsigned_abs way.y * unsigned_abs way.y) ≤ pace * pace = let g = subst (λ (z : ℤ). z ≤ℤ (pos pace *ℤ pos pace)) (square_sizes way) h in omega (arith, ints, g) in
    (root_le (unsigned_abs way.x) pace (omega (arith, e)), root_le (unsigned_abs way.y) pace (omega (arith, e)))

root_some : (root n : ℕ) → n ≤ root * root → 0 < n → 0 < root
root_some zero n h l = absurd (omega (arith, h, l))
root_some (suc root) n h l = omega arith

-- a way that one step of the pace doesn't reach has a length
pub length_some : (way : V2) (pace : ℕ) → (pos pace *ℤ pos pace) <ℤ square way → 0 < whole_length way
length_some way pace h =
    let e = ap unsigned_abs (square_sizes way) in
    let s : pace * pace < unsigned_abs way.x * unsigned_abs way.x + unsigned_abs way.y * unsigned_abs way.y = let g = subst (λ (z : ℤ). (pos pace *ℤ pos pace) <ℤ z) (square_sizes way) h in omega (arith, ints, g) in
    let l = ceil_root_reaches (unsigned_abs (square way)) in
    root_some (whole_length way) (unsigned_abs (square way)) l (omega (arith, e, s))

-- which isn't long between positions
pub square_small : (way : V2) → IsBelow way (2 ^ 32) → unsigned_abs (square way) ≤ 2 ^ 65
square_small way small =
    let e = ap unsigned_abs (square_sizes way) in
    let a : unsigned_abs way.x ≤ 2 ^ 32 = omega (arith, small.0) in
    let b : unsigned_abs way.y ≤ 2 ^ 32 = omega (arith, small.1) in
    let x : unsigned_abs way.x * unsigned_abs way.x ≤ 2 ^ 32 * 2 ^ 32 = mul-le-mul a a in
    let y : unsigned_abs way.y * unsigned_abs way.y ≤ 2 ^ 32 * 2 ^ 32 = mul-le-mul b b in
    omega (arith, e, x, y)

pub length_small : (way : V2) → IsBelow way (2 ^ 32) → whole_length way < 2 ^ 62
length_small way small =
    let m = square_small way small in
    lt_of_not-le (λ h. let l = ceil_root_first (unsigned_abs (square way)) (2 ^ 61) (omega (arith, h)) in absurd (omega (arith, m, l)))

-- the way from a position in range to a goal
pub way_small : (at from : V2) → IsPosition at → IsWithin from farthest → IsBelow (minus at from) (2 ^ 32)
way_small at from a f = (omega (arith, ints, a.0, f.0), omega (arith, ints, a.1, f.1))

-- ---- a quotient cut towards zero

abs_neg : (n : ℕ) → unsigned_abs (neg_ℤ (pos n)) ≡ n
abs_neg zero = refl
abs_neg (suc n) = refl

abs-int_div : (n : ℤ) (d : ℕ) → unsigned_abs (int_div n (pos d)) ≡ unsigned_abs n / d
abs-int_div (pos a) d = refl
abs-int_div (negsuc a) d = abs_neg (suc a / d)

-- a coordinate scaled by the pace over the length is at most the pace
pub scaled_small : (coordinate : ℤ) (pace length : ℕ) → unsigned_abs coordinate ≤ length → unsigned_abs (cut (coordinate *ℤ pos pace) (pos length)) ≤ pace
scaled_small coordinate pace length h =
    let e = abs-int_div (coordinate *ℤ pos pace) length in
    let m = unsigned_abs-mul coordinate (pos pace) in
    let k : pace ≤ pace = omega arith in
    let p : unsigned_abs coordinate * pace ≤ length * pace = mul-le-mul h k in
    let q : unsigned_abs (coordinate *ℤ pos pace) / length ≤ pace = div-le_of_le-mul length (omega (arith, m, p)) in
    omega (arith, e, q)

-- what the code's product and quotient of such numbers are
pub scaled_is : (coordinate : ℤ) (pace length : ℕ) (a p d : ℤ) → a ≡ coordinate → p ≡ pos pace → d ≡ pos length → unsigned_abs coordinate ≤ length → pace ≤ GREATEST_SPEED → 0 < length → length < 2 ^ 62
    → to_z w128 (of_z w128 (int_div (to_z w128 (of_z w128 (to_z w128 (of_z w128 a) *ℤ to_z w128 (of_z w128 p)))) (to_z w128 (of_z w128 d)))) ≡ cut (coordinate *ℤ pos pace) (pos length)
scaled_is coordinate pace length a p d ea ep ed h k l m =
    let size : unsigned_abs coordinate ≤ 2 ^ 62 = omega (arith, h, m) in
    let fits : FitsSigned w128 (coordinate *ℤ pos pace) = fits_signed_mul w128 coordinate (pos pace) (2 ^ 62) GREATEST_SPEED size k (omega arith) in
    let product : to_z w128 (of_z w128 (to_z w128 (of_z w128 a) *ℤ to_z w128 (of_z w128 p))) ≡ coordinate *ℤ pos pace =
    (λ i. to_z w128 (of_z w128 (to_z w128 (of_z w128 (ea i)) *ℤ to_z w128 (of_z w128 (ep i)))))
    ∙ computed (coordinate ∷ pos pace ∷ []) (2 ^ 62 ∷ GREATEST_SPEED ∷ []) (size, (k, tt)) (search reads depth 40 fits 20000) tt in
    let whole : FitsSigned w128 (pos length) = record { sfits = omega (arith, m) } in
    let divisor : to_z w128 (of_z w128 d) ≡ pos length = (λ i. to_z w128 (of_z w128 (ed i))) ∙ to_z-of_z whole in
    (λ i. to_z w128 (of_z w128 (int_div (product i) (divisor i)))) ∙ to_z-of_z (quot_fits w128 (coordinate *ℤ pos pace) (pos length) fits (omega (arith, ints, l)))

-- a coordinate as the code reads it
pub read_coordinate : (coordinate : ℤ) → unsigned_abs coordinate < 2 ^ 32 → unsigned_abs (to_z w64 (of_z w64 coordinate)) ≡ unsigned_abs coordinate
read_coordinate coordinate h = ap unsigned_abs (to_z-of_z (fits_signed_from_abs w64 coordinate (omega (arith, h))))
