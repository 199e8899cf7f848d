-- The angle at a point between the way to a whole point and the way to another point.
use Rattle.std.proofs.Common.{[], ◌∷◌, arith, ℤ, pos, ◌+ℤ◌, ◌-ℤ◌, ◌*ℤ◌, ◌≤ℤ◌, ◌<ℤ◌}
use Rattle.std.proofs.lemmas.Int.{ints}
use Rattle.exact_algebra.proofs.Ring.{quotes, shown}
use Rattle.exact_algebra.proofs.Order.{square_nonneg, product_nonneg, sum_nonneg, gap_nonneg, cancel}
use Rattle.fixed_vec.specs.declared.vector.V2.{V2}
use Rattle.fixed_vec.specs.Point.{Rational, IsPoint}
use Rattle.fixed_vec.specs.Meeting.{IsNoFarther}
use Rattle.planar_line.specs.Border.{toward}

pub weak : (a : ℤ) → pos 0 <ℤ a → pos 0 ≤ℤ a
weak a h = omega (arith, ints)

-- where the angle at p is not acute, p is no farther than v
pub no_farther : (pref : V2) (p v : Rational) → IsPoint v → toward pref p v ≤ℤ pos 0 → IsNoFarther pref p v
no_farther pref p v hv h =
    let back = product_nonneg (v.q +ℤ v.q) (pos 0 -ℤ toward pref p v) (sum_nonneg _ _ (weak v.q hv) (weak v.q hv)) (gap_nonneg _ _ h) in
    let apart = sum_nonneg _ _ (square_nonneg (v.x *ℤ p.q -ℤ p.x *ℤ v.q)) (square_nonneg (v.y *ℤ p.q -ℤ p.y *ℤ v.q)) in
    shown (pref.x ∷ pref.y ∷ p.x ∷ p.y ∷ p.q ∷ v.x ∷ v.y ∷ v.q ∷ []) (sum_nonneg _ _ apart back) (search quotes depth 40 fits 20000) tt

-- where the angle at o is not acute, the one at p is
pub turned : (pref : V2) (p o : Rational) → IsPoint p → IsPoint o → toward pref o p ≤ℤ pos 0 → pos 0 ≤ℤ toward pref p o
turned pref p o hp ho h =
    let back = product_nonneg p.q (pos 0 -ℤ toward pref o p) (weak p.q hp) (gap_nonneg _ _ h) in
    let apart = sum_nonneg _ _ (square_nonneg (o.x *ℤ p.q -ℤ p.x *ℤ o.q)) (square_nonneg (o.y *ℤ p.q -ℤ p.y *ℤ o.q)) in
    cancel (pos 0) (toward pref p o) o.q ho (shown (pref.x ∷ pref.y ∷ p.x ∷ p.y ∷ p.q ∷ o.x ∷ o.y ∷ o.q ∷ []) (sum_nonneg _ _ apart back) (search quotes depth 40 fits 20000) tt)
