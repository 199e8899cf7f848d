-- Points on one border: their order, and where another half-plane has them.
use Rattle.std.proofs.Common.{◌≡◌, [], ◌∷◌, subst, sym, arith, ℤ, pos, ◌+ℤ◌, ◌-ℤ◌, ◌*ℤ◌, ◌≤ℤ◌, ◌<ℤ◌}
use Rattle.std.proofs.lemmas.Int.{ints}
use Rattle.exact_algebra.proofs.Ring.{quotes, equal, shown}
use Rattle.exact_algebra.proofs.Order.{product_nonneg, sum_nonneg, gap_nonneg, cancel}
use Rattle.exact_algebra.proofs.Sizes.{product_positive}
use Rattle.fixed_vec.specs.declared.vector.V2.{V2}
use Rattle.fixed_vec.specs.Vector.{cross, dot, square}
use Rattle.fixed_vec.specs.HalfPlane.{Plane}
use Rattle.fixed_vec.specs.Point.{Rational, IsIn}
use Rattle.planar_line.specs.Border.{IsOnBorder, IsBefore, along, lead_of, toward, foot_of, crossing_of}
use Rattle.planar_line.proofs.Toward.{weak}

-- how far inside the half-plane a point lies, times the length of the normal and q
abbrev pub height : Plane → Rational → ℤ
height plane p = plane.n.x *ℤ p.x +ℤ plane.n.y *ℤ p.y -ℤ plane.c *ℤ p.q

pub height-border : (plane : Plane) (p : Rational) → IsOnBorder plane p → height plane p ≡ pos 0
height-border plane p h = let e = h.border in omega (arith, ints)

-- a multiple of nothing is not negative
pub zero_nonneg : (z k : ℤ) → z ≡ pos 0 → pos 0 ≤ℤ (z *ℤ k)
zero_nonneg z k h = subst (λ y. pos 0 ≤ℤ (y *ℤ k)) (sym h) (omega (arith, ints))

pub in-border : (plane : Plane) (p : Rational) → IsOnBorder plane p → IsIn plane p
in-border plane p h = let e = h.border in omega (arith, ints)

-- how far v comes after x along the border, times both denominators
abbrev pub gap : Plane → Rational → Rational → ℤ
gap h x v = along h v *ℤ x.q -ℤ along h x *ℤ v.q

module _ (h g : Plane) (x v : Rational) (nonzero : pos 0 <ℤ square h.n) (hx : IsOnBorder h x) (hv : IsOnBorder h v) where
  -- from a point of a half-plane the border goes on in it to one side
  pub carries : pos 0 ≤ℤ (cross h.n g.n *ℤ gap h x v) → IsIn g x → IsIn g v
  carries ahead inside =
      let k = dot h.n g.n in
      let more = product_nonneg (height g x) (square h.n *ℤ v.q) (gap_nonneg _ _ inside) (product_nonneg _ _ (weak _ nonzero) (weak _ hv.point)) in
      let zero_v = zero_nonneg (height h v) (k *ℤ x.q) (height-border h v hv) in
      let zero_x = zero_nonneg (height h x) (pos 0 -ℤ k *ℤ v.q) (height-border h x hx) in
      cancel (g.c *ℤ v.q) (g.n.x *ℤ v.x +ℤ g.n.y *ℤ v.y) (square h.n *ℤ x.q) (product_positive _ _ nonzero hx.point)
      (shown (h.n.x ∷ h.n.y ∷ h.c ∷ g.n.x ∷ g.n.y ∷ g.c ∷ x.x ∷ x.y ∷ x.q ∷ v.x ∷ v.y ∷ v.q ∷ [])
      (sum_nonneg _ _ (sum_nonneg _ _ ahead more) (sum_nonneg _ _ zero_v zero_x))
      (search quotes depth 40 fits 20000) tt)

  -- from a point of its border a half-plane goes to one side
  pub ahead : g.c *ℤ x.q ≡ g.n.x *ℤ x.x +ℤ g.n.y *ℤ x.y → IsIn g v → pos 0 ≤ℤ (cross h.n g.n *ℤ gap h x v)
  ahead on inside =
      let k = dot h.n g.n in
      let high = product_nonneg (height g v) (square h.n *ℤ x.q) (gap_nonneg _ _ inside) (product_nonneg _ _ (weak _ nonzero) (weak _ hx.point)) in
      let start : height g x ≡ pos 0 = omega (arith, ints) in
      let zero_g = zero_nonneg (height g x) (pos 0 -ℤ square h.n *ℤ v.q) start in
      let zero_v = zero_nonneg (height h v) (pos 0 -ℤ k *ℤ x.q) (height-border h v hv) in
      let zero_x = zero_nonneg (height h x) (k *ℤ v.q) (height-border h x hx) in
      shown (h.n.x ∷ h.n.y ∷ h.c ∷ g.n.x ∷ g.n.y ∷ g.c ∷ x.x ∷ x.y ∷ x.q ∷ v.x ∷ v.y ∷ v.q ∷ [])
      (sum_nonneg _ _ (sum_nonneg _ _ high zero_g) (sum_nonneg _ _ zero_v zero_x))
      (search quotes depth 40 fits 20000) tt

  pub carries_up : pos 0 <ℤ cross h.n g.n → IsBefore h x v → IsIn g x → IsIn g v
  carries_up rises order = carries (product_nonneg _ _ (weak _ rises) (gap_nonneg _ _ order))

  pub carries_down : cross h.n g.n <ℤ pos 0 → IsBefore h v x → IsIn g x → IsIn g v
  carries_down falls order =
      carries (shown (cross h.n g.n ∷ along h v ∷ along h x ∷ x.q ∷ v.q ∷ [])
      (product_nonneg (pos 0 -ℤ cross h.n g.n) (pos 0 -ℤ gap h x v) (omega (arith, ints)) (omega (arith, ints)))
      (search quotes depth 40 fits 20000) tt)

  pub carries_level : cross h.n g.n ≡ pos 0 → IsIn g x → IsIn g v
  carries_level level = carries (zero_nonneg _ _ level)

  pub ahead_up : pos 0 <ℤ cross h.n g.n → IsOnBorder g x → IsIn g v → IsBefore h x v
  ahead_up rises gx inside =
      let way : (pos 0 *ℤ cross h.n g.n) ≤ℤ (gap h x v *ℤ cross h.n g.n) = shown (cross h.n g.n ∷ gap h x v ∷ []) (ahead gx.border inside) (search quotes depth 30) tt in
      let forth = cancel (pos 0) (gap h x v) (cross h.n g.n) rises way in
      omega (arith, ints)

  pub ahead_down : cross h.n g.n <ℤ pos 0 → IsOnBorder g x → IsIn g v → IsBefore h v x
  ahead_down falls gx inside =
      let back : ℤ = pos 0 -ℤ cross h.n g.n in
      let way : (pos 0 *ℤ back) ≤ℤ ((pos 0 -ℤ gap h x v) *ℤ back) = shown (cross h.n g.n ∷ gap h x v ∷ []) (ahead gx.border inside) (search quotes depth 30) tt in
      let forth = cancel (pos 0) (pos 0 -ℤ gap h x v) back (omega (arith, ints)) way in
      omega (arith, ints)

-- ---- crossings and feet
pub crossing-first : (h g : Plane) → pos 0 <ℤ cross h.n g.n → IsOnBorder h (crossing_of h g)
crossing-first h g rises = record {
  point = rises;
  border = equal (h.n.x ∷ h.n.y ∷ h.c ∷ g.n.x ∷ g.n.y ∷ g.c ∷ []) (search quotes depth 40 fits 20000) tt;
}

pub crossing-second : (h g : Plane) → pos 0 <ℤ cross h.n g.n → IsOnBorder g (crossing_of h g)
crossing-second h g rises = record {
  point = rises;
  border = equal (h.n.x ∷ h.n.y ∷ h.c ∷ g.n.x ∷ g.n.y ∷ g.c ∷ []) (search quotes depth 40 fits 20000) tt;
}

pub foot-border : (h : Plane) (v : V2) → pos 0 <ℤ square h.n → IsOnBorder h (foot_of h v)
foot-border h v nonzero = record {
  point = nonzero;
  border = equal (h.n.x ∷ h.n.y ∷ h.c ∷ v.x ∷ v.y ∷ []) (search quotes depth 40 fits 20000) tt;
}

lead-foot : (h : Plane) (v : V2) → lead_of h (foot_of h v) v ≡ pos 0
lead-foot h v = equal (h.n.x ∷ h.n.y ∷ h.c ∷ v.x ∷ v.y ∷ []) (search quotes depth 40 fits 20000) tt

-- ---- the angle at a point of the border
module _ (h : Plane) (pref : V2) (p v : Rational) (nonzero : pos 0 <ℤ square h.n) (hp : IsOnBorder h p) (hv : IsOnBorder h v) where
  -- pref does not lie on the side of v
  turns : pos 0 ≤ℤ ((pos 0 -ℤ lead_of h p pref) *ℤ gap h p v) → toward pref p v ≤ℤ pos 0
  turns back =
      let m = h.n.x *ℤ (pref.x *ℤ p.q -ℤ p.x) +ℤ h.n.y *ℤ (pref.y *ℤ p.q -ℤ p.y) in
      let zero_v = zero_nonneg (height h v) (pos 0 -ℤ m *ℤ p.q) (height-border h v hv) in
      let zero_p = zero_nonneg (height h p) (m *ℤ v.q) (height-border h p hp) in
      cancel (toward pref p v) (pos 0) (square h.n) nonzero
      (shown (h.n.x ∷ h.n.y ∷ h.c ∷ pref.x ∷ pref.y ∷ p.x ∷ p.y ∷ p.q ∷ v.x ∷ v.y ∷ v.q ∷ [])
      (sum_nonneg _ _ back (sum_nonneg _ _ zero_v zero_p))
      (search quotes depth 40 fits 20000) tt)

  pub turns_low : lead_of h p pref ≤ℤ pos 0 → IsBefore h p v → toward pref p v ≤ℤ pos 0
  turns_low behind order = turns (product_nonneg _ _ (gap_nonneg _ _ behind) (gap_nonneg _ _ order))

  pub turns_high : pos 0 ≤ℤ lead_of h p pref → IsBefore h v p → toward pref p v ≤ℤ pos 0
  turns_high beyond order =
      turns (shown (lead_of h p pref ∷ gap h p v ∷ []) (product_nonneg (lead_of h p pref) (pos 0 -ℤ gap h p v) beyond (omega (arith, ints))) (search quotes depth 30) tt)

pub turns_foot : (h : Plane) (pref : V2) (v : Rational) → pos 0 <ℤ square h.n → IsOnBorder h v → toward pref (foot_of h pref) v ≤ℤ pos 0
turns_foot h pref v nonzero hv =
    let at_foot = lead-foot h pref in
    let still : pos 0 -ℤ lead_of h (foot_of h pref) pref ≡ pos 0 = omega (arith, ints) in
    turns h pref (foot_of h pref) v nonzero (foot-border h pref nonzero) hv (zero_nonneg _ _ still)

pub foot_after : (h : Plane) (pref : V2) (p : Rational) → pos 0 <ℤ square h.n → pos 0 ≤ℤ lead_of h p pref → IsBefore h p (foot_of h pref)
foot_after h pref p nonzero lead =
    shown (h.n.x ∷ h.n.y ∷ h.c ∷ pref.x ∷ pref.y ∷ p.x ∷ p.y ∷ p.q ∷ []) (product_nonneg (square h.n) _ (weak _ nonzero) lead) (search quotes depth 40 fits 20000) tt

pub foot_before : (h : Plane) (pref : V2) (p : Rational) → pos 0 <ℤ square h.n → lead_of h p pref ≤ℤ pos 0 → IsBefore h (foot_of h pref) p
foot_before h pref p nonzero lead =
    shown (h.n.x ∷ h.n.y ∷ h.c ∷ pref.x ∷ pref.y ∷ p.x ∷ p.y ∷ p.q ∷ []) (product_nonneg (square h.n) _ (weak _ nonzero) (gap_nonneg _ _ lead)) (search quotes depth 40 fits 20000) tt
