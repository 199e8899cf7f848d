-- Ways that stay off a segment. p is the disc's centre and d the far end, seen from the segment's near end.
use Rattle.std.proofs.Common.{◌≡◌, [], ◌∷◌, sym, subst, arith, ℤ, pos, neg_ℤ, ◌+ℤ◌, ◌-ℤ◌, ◌*ℤ◌, ◌≤ℤ◌, ◌<ℤ◌}
use Rattle.std.proofs.lemmas.Int.{ints}
use Rattle.exact_algebra.specs.Numbers.{ceil}
use Rattle.exact_algebra.proofs.Ring.{quotes, equal, shown}
use Rattle.exact_algebra.proofs.Order.{square_nonneg, product_nonneg, sum_nonneg, gap_nonneg, cancel}
use Rattle.exact_algebra.proofs.Sizes.{product_positive}
use Rattle.fixed_vec.specs.declared.vector.V2.{V2}
use Rattle.fixed_vec.specs.Vector.{dot, minus, opposite, plus, square, times, zero_vector}
use Rattle.separation_law.proofs.Borders.{arc_onward}
use Rattle.separation_law.proofs.FarPairs.{dot_le}
use Rattle.separation_law.proofs.Ways.{IsHeldOff, way_held}

-- after the fraction k/m of the way v, the point j/i of the segment is at least R off
abbrev pub IsOffAt : V2 → V2 → V2 → ℤ → ℤ → ℤ → ℤ → ℤ → Type 0
IsOffAt p d v R k m j i = ((m *ℤ i *ℤ R) *ℤ (m *ℤ i *ℤ R)) ≤ℤ square (minus (plus (times (m *ℤ i) p) (times (k *ℤ i) v)) (times (m *ℤ j) d))

-- i times the way from the disc to the point j/i of the segment
abbrev pub to_wall : V2 → V2 → ℤ → ℤ → V2
to_wall p d j i = minus (times j d) (times i p)

-- a normal that holds a point off at both ends of the way holds it off throughout
off_between : (n p d v : V2) (R k m j i : ℤ) → pos 0 <ℤ square n → IsHeldOff n (to_wall p d j i) (i *ℤ R) → IsHeldOff n (minus (to_wall p d j i) (times i v)) (i *ℤ R)
    → pos 0 ≤ℤ k → k ≤ℤ m → IsOffAt p d v R k m j i
off_between n p d v R k m j i some start end hk hm =
    shown (p.x ∷ p.y ∷ d.x ∷ d.y ∷ v.x ∷ v.y ∷ R ∷ k ∷ m ∷ j ∷ i ∷ [])
    (gap_nonneg _ _ (way_held n (to_wall p d j i) (times i v) (i *ℤ R) some start end k m hk hm)) (search quotes depth 60 fits 80000) tt

-- what lies at least as far against n as i times c, which is R lengths of n
held_farther : (n y : V2) (R c i : ℤ) → pos 0 ≤ℤ i → c ≤ℤ pos 0 → (R *ℤ R *ℤ square n) ≤ℤ (c *ℤ c) → dot n y ≤ℤ (i *ℤ c) → IsHeldOff n y (i *ℤ R)
held_farther n y R c i hi off far past =
    let s = dot n y in
    let z : pos 0 ≤ℤ (i *ℤ (pos 0 -ℤ c)) = product_nonneg i (pos 0 -ℤ c) hi (gap_nonneg _ _ off) in
    let e : i *ℤ (pos 0 -ℤ c) ≡ neg_ℤ (i *ℤ c) = equal (i ∷ c ∷ []) (search quotes depth 30) tt in
    let low : pos 0 ≤ℤ (neg_ℤ (i *ℤ c) -ℤ s) = omega (arith, ints) in
    record {
      against = omega (arith, ints);
      far = shown (n.x ∷ n.y ∷ y.x ∷ y.y ∷ i ∷ c ∷ R ∷ [])
          (sum_nonneg _ _ (product_nonneg (i *ℤ c -ℤ s) (neg_ℤ (i *ℤ c) -ℤ s) (gap_nonneg _ _ past) low) (product_nonneg (i *ℤ i) _ (square_nonneg i) (gap_nonneg _ _ far)))
          (search quotes depth 60 fits 80000) tt;
    }

-- ---- a wall plane

-- a border through the point at e from the disc: the disc is R off on the side of its normal n, and no point of the segment lies on that side
pub record IsBorder (p d : V2) (R : ℤ) (n e : V2) : Type 0 where
  pub nonzero : pos 0 <ℤ square n
  pub held : IsHeldOff n e R
  pub beyond : (j i : ℤ) → pos 0 ≤ℤ j → j ≤ℤ i → dot n (to_wall p d j i) ≤ℤ (i *ℤ dot n e)

-- a velocity beyond the offset of a border, rounded up, keeps off the segment for t steps
pub border_off : (p d n e v : V2) (R l t k m j i : ℤ) → IsBorder p d R n e → pos 0 <ℤ t → pos 0 ≤ℤ R → pos 0 ≤ℤ l → square n ≤ℤ (l *ℤ l) → ceil (dot n e +ℤ R *ℤ l) t ≤ℤ dot n v
    → pos 0 ≤ℤ k → k ≤ℤ m → pos 0 ≤ℤ j → j ≤ℤ i → IsOffAt p d (times t v) R k m j i
border_off p d n e v R l t k m j i border ht hR hl length meets hk hm hj hi =
    let i0 : pos 0 ≤ℤ i = omega (arith, ints) in
    let past = border.beyond j i hj hi in
    let onward = arc_onward n e v R l t ht hR hl length meets in
    let past' : dot n (minus (to_wall p d j i) (times i (times t v))) ≤ℤ (i *ℤ dot n (minus e (times t v))) =
    shown (n.x ∷ n.y ∷ p.x ∷ p.y ∷ d.x ∷ d.y ∷ e.x ∷ e.y ∷ v.x ∷ v.y ∷ t ∷ j ∷ i ∷ []) (gap_nonneg _ _ past) (search quotes depth 60 fits 80000) tt in
    off_between n p d (times t v) R k m j i border.nonzero
    (held_farther n (to_wall p d j i) R (dot n e) i i0 border.held.against border.held.far past)
    (held_farther n (minus (to_wall p d j i) (times i (times t v))) R (dot n (minus e (times t v))) i i0 onward.against onward.far past')
    hk hm

-- ---- out of reach

less_square : (a b : ℤ) → pos 0 ≤ℤ a → a ≤ℤ b → (a *ℤ a *ℤ pos 1) ≤ℤ (neg_ℤ b *ℤ neg_ℤ b)
less_square a b ha h = shown (a ∷ b ∷ []) (product_nonneg (b -ℤ a) (b +ℤ a) (gap_nonneg _ _ h) (omega (arith, ints))) (search quotes depth 30) tt

-- along the unit vector n both ends are farther off than R and t steps at the speed s
pub reach_off : (n p d v : V2) (R t s k m j i : ℤ) → square n ≡ pos 1 → pos 0 ≤ℤ R → pos 0 ≤ℤ t → pos 0 ≤ℤ s → (R +ℤ t *ℤ s) ≤ℤ dot n p → (R +ℤ t *ℤ s) ≤ℤ dot n (minus p d) → square v ≤ℤ (s *ℤ s)
    → pos 0 ≤ℤ k → k ≤ℤ m → pos 0 ≤ℤ j → j ≤ℤ i → IsOffAt p d (times t v) R k m j i
reach_off n p d v R t s k m j i unit hR ht hs near far slow hk hm hj hi =
    let i0 : pos 0 ≤ℤ i = omega (arith, ints) in
    let h : ℤ = R +ℤ t *ℤ s in
    let ts = product_nonneg t s ht hs in
    let same : square (opposite n) ≡ square n = equal (n.x ∷ n.y ∷ []) (search quotes depth 40 fits 20000) tt in
    let back = dot_le (opposite n) v (pos 1) s (omega (arith, ints)) hs (omega (arith, ints)) slow in
    let start : dot n (to_wall p d j i) ≤ℤ (i *ℤ neg_ℤ h) =
    shown (n.x ∷ n.y ∷ p.x ∷ p.y ∷ d.x ∷ d.y ∷ R ∷ t ∷ s ∷ j ∷ i ∷ [])
    (sum_nonneg _ _ (product_nonneg (i -ℤ j) _ (gap_nonneg _ _ hi) (gap_nonneg _ _ near)) (product_nonneg j _ hj (gap_nonneg _ _ far))) (search quotes depth 60 fits 80000) tt in
    let end : dot n (minus (to_wall p d j i) (times i (times t v))) ≤ℤ (i *ℤ neg_ℤ R) =
    shown (n.x ∷ n.y ∷ p.x ∷ p.y ∷ d.x ∷ d.y ∷ v.x ∷ v.y ∷ R ∷ t ∷ s ∷ j ∷ i ∷ [])
    (sum_nonneg _ _ (gap_nonneg _ _ start) (product_nonneg (i *ℤ t) _ (product_nonneg i t i0 ht) (gap_nonneg _ _ back))) (search quotes depth 60 fits 80000) tt in
    off_between n p d (times t v) R k m j i (omega (arith, ints))
    (held_farther n (to_wall p d j i) R (neg_ℤ h) i i0 (omega (arith, ints)) (subst (λ z. (R *ℤ R *ℤ z) ≤ℤ (neg_ℤ h *ℤ neg_ℤ h)) (sym unit) (less_square R h hR (omega (arith, ints)))) start)
    (held_farther n (minus (to_wall p d j i) (times i (times t v))) R (neg_ℤ R) i i0 (omega (arith, ints)) (subst (λ z. (R *ℤ R *ℤ z) ≤ℤ (neg_ℤ R *ℤ neg_ℤ R)) (sym unit) (less_square R R hR (omega (arith, ints)))) end)
    hk hm

-- ---- at rest, and for one step

-- a disc at rest
pub rest_off : (p d : V2) (R t k m j i : ℤ) → (i *ℤ i *ℤ (R *ℤ R)) ≤ℤ square (minus (times i p) (times j d)) → IsOffAt p d (times t zero_vector) R k m j i
rest_off p d R t k m j i clear =
    shown (p.x ∷ p.y ∷ d.x ∷ d.y ∷ R ∷ t ∷ k ∷ m ∷ j ∷ i ∷ []) (product_nonneg (m *ℤ m) _ (square_nonneg m) (gap_nonneg _ _ clear)) (search quotes depth 60 fits 80000) tt

-- one step is a part of t steps
pub slower_off : (p d v : V2) (R t k m j i : ℤ) → pos 0 <ℤ t → IsOffAt p d (times t v) R k (m *ℤ t) j i → IsOffAt p d v R k m j i
slower_off p d v R t k m j i ht off =
    cancel _ _ (t *ℤ t) (product_positive t t ht ht)
    (shown (p.x ∷ p.y ∷ d.x ∷ d.y ∷ v.x ∷ v.y ∷ R ∷ t ∷ k ∷ m ∷ j ∷ i ∷ []) (gap_nonneg _ _ off) (search quotes depth 60 fits 80000) tt)
