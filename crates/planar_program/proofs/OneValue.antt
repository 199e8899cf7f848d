-- The nearest point of a meeting is one value, and rounds to one whole point.
use Rattle.std.proofs.Common.{◌≡◌, zero, suc, refl, [], ◌∷◌, arith, ℤ, pos, negsuc, ◌+ℤ◌, ◌-ℤ◌, ◌*ℤ◌, ◌≤ℤ◌, List}
use Rattle.std.proofs.lemmas.Int.{ints}
use Rattle.exact_algebra.proofs.Ring.{quotes, shown}
use Rattle.exact_algebra.proofs.Order.{square_nonneg, sum_nonneg, gap_nonneg, cancel}
use Rattle.exact_algebra.proofs.Sizes.{product_positive}
use Rattle.fixed_vec.specs.declared.vector.V2.{V2}
use Rattle.fixed_vec.specs.HalfPlane.{Plane}
use Rattle.fixed_vec.specs.Point.{Rational, IsPoint, rounded_of}
use Rattle.fixed_vec.specs.Meeting.{Nearest, IsNoFarther, squared_distance}
use Rattle.fixed_vec.proofs.RoundedOnce.{IsSame, rounded-same}
use Rattle.planar_line.proofs.Toward.{weak}
use Rattle.planar_program.proofs.Steps.{between}
use Rattle.planar_program.proofs.Places.{convex-meeting}

pub square_zero : (a : ℤ) → (a *ℤ a) ≤ℤ pos 0 → a ≡ pos 0
square_zero (pos zero) h = refl
square_zero (pos (suc n)) h = absurd (omega (arith, ints))
square_zero (negsuc n) h = absurd (omega (arith, ints))

-- the point half of the way between
abbrev middle : Rational → Rational → Rational
middle p v = between p.q v.q p v

-- what p's being no farther than the middle says, without p's denominator
no_farther-middle : (pref : V2) (p v : Rational) → IsPoint p → IsNoFarther pref p (middle p v) → (squared_distance pref p *ℤ ((v.q +ℤ v.q) *ℤ (v.q +ℤ v.q))) ≤ℤ squared_distance pref (middle p v)
no_farther-middle pref p v hp h = cancel _ _ (p.q *ℤ p.q) (product_positive p.q p.q hp hp)
    (shown (pref.x ∷ pref.y ∷ p.x ∷ p.y ∷ p.q ∷ v.x ∷ v.y ∷ v.q ∷ []) (gap_nonneg _ _ h) (search quotes depth 40 fits 20000) tt)

-- two nearest points have one value
pub nearest-same : (planes : List Plane) (pref : V2) (p v : Rational) → Nearest planes pref p → Nearest planes pref v → IsSame p v
nearest-same planes pref p v np nv =
    let hp = np.meets.point in
    let hv = nv.meets.point in
    let pv = (convex-meeting planes).between p.q v.q p v (weak p.q hp) hv np.meets nv.meets in
    let vp = (convex-meeting planes).between v.q p.q v p (weak v.q hv) hp nv.meets np.meets in
    let first = no_farther-middle pref p v hp (np.no_farther (middle p v) pv) in
    let second = no_farther-middle pref v p hv (nv.no_farther (middle v p) vp) in
    let e = p.x *ℤ v.q -ℤ v.x *ℤ p.q in
    let g = p.y *ℤ v.q -ℤ v.y *ℤ p.q in
    let apart : ((e *ℤ e +ℤ g *ℤ g) +ℤ (e *ℤ e +ℤ g *ℤ g)) ≤ℤ pos 0 =
    shown (pref.x ∷ pref.y ∷ p.x ∷ p.y ∷ p.q ∷ v.x ∷ v.y ∷ v.q ∷ []) (sum_nonneg _ _ (gap_nonneg _ _ first) (gap_nonneg _ _ second)) (search quotes depth 40 fits 20000) tt in
    let ee = square_nonneg e in
    let gg = square_nonneg g in
    let none_across = square_zero e (omega (arith, ints)) in
    let none_along = square_zero g (omega (arith, ints)) in
    record { across = omega (arith, ints); along = omega (arith, ints) }

pub nearest-rounded : (planes : List Plane) (pref : V2) (p v : Rational) → Nearest planes pref p → Nearest planes pref v → rounded_of p ≡ rounded_of v
nearest-rounded planes pref p v np nv = rounded-same p v np.meets.point nv.meets.point (nearest-same planes pref p v np nv)
