-- Why each part of the border of a velocity obstacle keeps two discs apart.
use Rattle.std.proofs.Common.{◌≡◌, [], ◌∷◌, arith, ℤ, pos, neg_ℤ, ◌+ℤ◌, ◌-ℤ◌, ◌*ℤ◌, ◌≤ℤ◌, ◌<ℤ◌}
use Rattle.std.proofs.lemmas.Int.{ints, by_lt_z}
use Rattle.exact_algebra.specs.Numbers.{ceil}
use Rattle.exact_algebra.proofs.Ring.{quotes, equal, shown}
use Rattle.exact_algebra.proofs.Order.{square_nonneg, product_nonneg, sum_nonneg, gap_nonneg, product-le, cancel}
use Rattle.exact_algebra.proofs.Cauchy.{along_le}
use Rattle.exact_algebra.proofs.Rounding.{ceil_ge}
use Rattle.exact_algebra.proofs.Sizes.{product_positive}
use Rattle.fixed_vec.specs.declared.vector.V2.{V2}
use Rattle.fixed_vec.specs.Vector.{dot, minus, perp, square, times}
use Rattle.separation_law.proofs.Ways.{IsHeldOff, StaysOutside, way_held}

-- the normal of a leg of length l, of either sign
abbrev pub leg : V2 → ℤ → ℤ → V2
leg p R l = minus (times l (perp p)) (times R p)

-- against a leg's normal p is R off, where l is at most as long as the leg
pub leg_held : (p : V2) (R l : ℤ) → pos 0 ≤ℤ R → (l *ℤ l +ℤ R *ℤ R) ≤ℤ square p → IsHeldOff (leg p R l) p R
leg_held p R l hR short =
    let pp : pos 0 ≤ℤ square p = sum_nonneg _ _ (square_nonneg p.x) (square_nonneg p.y) in
    record {
      against = shown (p.x ∷ p.y ∷ R ∷ l ∷ []) (product_nonneg R (square p) hR pp) (search quotes depth 60 fits 80000) tt;
      far = shown (p.x ∷ p.y ∷ R ∷ l ∷ []) (product_nonneg _ _ (product_nonneg (R *ℤ R) (square p) (square_nonneg R) pp) (gap_nonneg _ _ short)) (search quotes depth 60 fits 80000) tt;
    }

-- going along n only takes it farther off
pub held_onward : (n p v : V2) (R t : ℤ) → IsHeldOff n p R → pos 0 ≤ℤ t → pos 0 ≤ℤ dot n v → IsHeldOff n (minus p (times t v)) R
held_onward n p v R t held ht along =
    let s = dot n p in let e = dot n v in
    let te = product_nonneg t e ht along in
    let back = gap_nonneg s (pos 0) held.against in
    record {
      against = shown (n.x ∷ n.y ∷ p.x ∷ p.y ∷ v.x ∷ v.y ∷ t ∷ []) (sum_nonneg _ _ te back) (search quotes depth 60 fits 80000) tt;
      far = shown (n.x ∷ n.y ∷ p.x ∷ p.y ∷ v.x ∷ v.y ∷ R ∷ t ∷ [])
          (sum_nonneg _ _ (gap_nonneg _ _ held.far) (product_nonneg (t *ℤ e) _ te (sum_nonneg _ _ te (sum_nonneg _ _ back back))))
          (search quotes depth 60 fits 80000) tt;
    }

-- a normal that p lies against isn't zero
pub normal_nonzero : (n p : V2) → dot n p <ℤ pos 0 → pos 0 <ℤ square n
normal_nonzero n p h = by_lt_z (pos 0) (square n) (λ some. some) (λ none.
    let d = dot n p in
    let pp : pos 0 ≤ℤ square p = sum_nonneg _ _ (square_nonneg p.x) (square_nonneg p.y) in
    let less : pos 0 ≤ℤ (neg_ℤ d -ℤ pos 1) = omega (arith, ints) in
    let more : pos 0 ≤ℤ (pos 1 -ℤ d) = omega (arith, ints) in
    let bad : pos 1 ≤ℤ pos 0 = shown (n.x ∷ n.y ∷ p.x ∷ p.y ∷ [])
    (sum_nonneg _ _ (gap_nonneg _ _ (along_le n.x n.y p.x p.y)) (sum_nonneg _ _ (product_nonneg _ _ pp (gap_nonneg _ _ none)) (product_nonneg _ _ less more)))
    (search quotes depth 60 fits 80000) tt in
    absurd (omega (arith, ints)))

-- the legs keep the way of t steps outside
pub leg_way : (p v : V2) (R l t : ℤ) → pos 0 <ℤ R → (R *ℤ R) ≤ℤ square p → (l *ℤ l +ℤ R *ℤ R) ≤ℤ square p → pos 0 ≤ℤ t → pos 0 ≤ℤ dot (leg p R l) v → StaysOutside p (times t v) R
leg_way p v R l t hR apart short ht along =
    let held = leg_held p R l (omega (arith, ints)) short in
    let RR = product_positive R R hR hR in
    let Rp = product_positive R (square p) hR (omega (arith, ints)) in
    let e : dot (leg p R l) p ≡ neg_ℤ (R *ℤ square p) = equal (p.x ∷ p.y ∷ R ∷ l ∷ []) (search quotes depth 60 fits 80000) tt in
    way_held (leg p R l) p (times t v) R (normal_nonzero (leg p R l) p (omega (arith, ints))) held (held_onward (leg p R l) p v R t held ht along)

-- what the offset of an arc's half-plane, rounded up, keeps of t steps
pub arc_onward : (n p v : V2) (R l t : ℤ) → pos 0 <ℤ t → pos 0 ≤ℤ R → pos 0 ≤ℤ l → square n ≤ℤ (l *ℤ l) → ceil (dot n p +ℤ R *ℤ l) t ≤ℤ dot n v → IsHeldOff n (minus p (times t v)) R
arc_onward n p v R l t ht hR hl length meets =
    let up = ceil_ge (dot n p +ℤ R *ℤ l) t ht in
    let reach = product-le (ceil (dot n p +ℤ R *ℤ l) t) (dot n v) t (omega (arith, ints)) meets in
    let Rl = product_nonneg R l hR hl in
    let s : ℤ = dot n p -ℤ dot n v *ℤ t in
    let over : (s +ℤ R *ℤ l) ≤ℤ pos 0 = omega (arith, ints) in
    let off : s ≤ℤ pos 0 = omega (arith, ints) in
    let twice : pos 0 ≤ℤ (R *ℤ l -ℤ s) = omega (arith, ints) in
    record {
      against = shown (n.x ∷ n.y ∷ p.x ∷ p.y ∷ v.x ∷ v.y ∷ t ∷ []) (gap_nonneg _ _ off) (search quotes depth 60 fits 80000) tt;
      far = shown (n.x ∷ n.y ∷ p.x ∷ p.y ∷ v.x ∷ v.y ∷ R ∷ l ∷ t ∷ [])
          (sum_nonneg _ _ (product_nonneg _ _ (gap_nonneg _ _ over) twice) (product_nonneg _ _ (gap_nonneg _ _ length) (square_nonneg R)))
          (search quotes depth 60 fits 80000) tt;
    }

-- the arc keeps the way of t steps outside
pub arc_way : (n p v : V2) (R l t : ℤ) → dot n p <ℤ pos 0 → (R *ℤ R *ℤ square n) <ℤ (dot n p *ℤ dot n p)
    → pos 0 <ℤ t → pos 0 ≤ℤ R → pos 0 ≤ℤ l → square n ≤ℤ (l *ℤ l) → ceil (dot n p +ℤ R *ℤ l) t ≤ℤ dot n v → StaysOutside p (times t v) R
arc_way n p v R l t against far ht hR hl length meets =
    way_held n p (times t v) R (normal_nonzero n p against) (record { against = omega (arith, ints); far = omega (arith, ints) })
    (arc_onward n p v R l t ht hR hl length meets)

-- what lies R lengths of n along n is at least R off
pub overlap_end : (n y : V2) (R l : ℤ) → pos 0 <ℤ square n → pos 0 ≤ℤ R → pos 0 ≤ℤ l → square n ≤ℤ (l *ℤ l) → (R *ℤ l) ≤ℤ dot n y → (R *ℤ R) ≤ℤ square y
overlap_end n y R l some hR hl length off =
    let Rl = product_nonneg R l hR hl in
    let gap = gap_nonneg _ _ off in
    cancel _ _ (square n) some
    (shown (n.x ∷ n.y ∷ y.x ∷ y.y ∷ R ∷ l ∷ [])
    (sum_nonneg _ _ (square_nonneg (n.x *ℤ y.y -ℤ n.y *ℤ y.x))
    (sum_nonneg _ _ (product_nonneg _ _ gap (sum_nonneg _ _ gap (sum_nonneg _ _ Rl Rl)))
    (product_nonneg (R *ℤ R) _ (square_nonneg R) (gap_nonneg _ _ length))))
    (search quotes depth 60 fits 80000) tt)
