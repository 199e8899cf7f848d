use Rattle.std.proofs.Common.{◌≡◌, ⊎_elim, [], ◌∷◌, arith, ℤ, pos, ◌+ℤ◌, ◌-ℤ◌, ◌*ℤ◌, ◌≤ℤ◌, ◌<ℤ◌}
use Rattle.std.proofs.lemmas.Int.{ints}
use Rattle.exact_algebra.proofs.Ring.{quotes, equal, shown}
use Rattle.exact_algebra.proofs.Order.{square_nonneg, product_nonneg, sum_nonneg, gap_nonneg, le_total, cancel, nonnegs}

-- |n|² |p|² = (n . p)² + cross(n, p)²
pub lagrange : (a b x y : ℤ)
    → (a *ℤ a +ℤ b *ℤ b) *ℤ (x *ℤ x +ℤ y *ℤ y)
    ≡ (a *ℤ x +ℤ b *ℤ y) *ℤ (a *ℤ x +ℤ b *ℤ y) +ℤ (a *ℤ y -ℤ b *ℤ x) *ℤ (a *ℤ y -ℤ b *ℤ x)
lagrange a b x y = equal (a ∷ b ∷ x ∷ y ∷ []) (search quotes depth 30) tt

-- two numbers on one side of zero, whose squares reach c: their product does too
pub product_reaches : (s t c : ℤ) → s ≤ℤ pos 0 → t ≤ℤ pos 0 → c ≤ℤ (s *ℤ s) → c ≤ℤ (t *ℤ t) → c ≤ℤ (s *ℤ t)
product_reaches s t c hs ht ks kt = ⊎_elim
    (λ h. shown (s ∷ t ∷ c ∷ [])
    (sum_nonneg ((t -ℤ s) *ℤ (pos 0 -ℤ t)) (t *ℤ t -ℤ c) (product_nonneg (t -ℤ s) (pos 0 -ℤ t) (gap_nonneg s t h) (gap_nonneg t (pos 0) ht)) (gap_nonneg c (t *ℤ t) kt))
    (search quotes depth 30) tt)
    (λ h. shown (s ∷ t ∷ c ∷ [])
    (sum_nonneg ((s -ℤ t) *ℤ (pos 0 -ℤ s)) (s *ℤ s -ℤ c) (product_nonneg (s -ℤ t) (pos 0 -ℤ s) (gap_nonneg t s h) (gap_nonneg s (pos 0) hs)) (gap_nonneg c (s *ℤ s) ks))
    (search quotes depth 30) tt)
    (le_total s t)

-- the same for each mixture of the two
pub mixture_reaches : (s t c i k : ℤ) → s ≤ℤ pos 0 → t ≤ℤ pos 0 → c ≤ℤ (s *ℤ s) → c ≤ℤ (t *ℤ t) → pos 0 ≤ℤ i → pos 0 ≤ℤ k
    → (c *ℤ ((i +ℤ k) *ℤ (i +ℤ k))) ≤ℤ ((i *ℤ s +ℤ k *ℤ t) *ℤ (i *ℤ s +ℤ k *ℤ t))
mixture_reaches s t c i k hs ht ks kt hi hk =
    let st : c ≤ℤ (s *ℤ t) = product_reaches s t c hs ht ks kt in
    let z : ℤ = (i *ℤ i) *ℤ (s *ℤ s -ℤ c) +ℤ (k *ℤ k) *ℤ (t *ℤ t -ℤ c) +ℤ (pos 2 *ℤ (i *ℤ k)) *ℤ (s *ℤ t -ℤ c) in
    let two : pos 0 ≤ℤ pos 2 = omega (arith, ints) in
    let h : pos 0 ≤ℤ z = search nonnegs depth 30 in
    shown (s ∷ t ∷ c ∷ i ∷ k ∷ []) h (search quotes depth 30) tt

-- Cauchy's inequality
pub along_le : (a b x y : ℤ) → ((a *ℤ x +ℤ b *ℤ y) *ℤ (a *ℤ x +ℤ b *ℤ y)) ≤ℤ ((x *ℤ x +ℤ y *ℤ y) *ℤ (a *ℤ a +ℤ b *ℤ b))
along_le a b x y = shown (a ∷ b ∷ x ∷ y ∷ []) (square_nonneg (a *ℤ y -ℤ b *ℤ x)) (search quotes depth 30) tt

-- step 1 of the safety proof, n = (a, b), p = (x, y), v = (u, w)
pub way_outside : (a b x y u w r k m : ℤ)
    → pos 0 <ℤ (a *ℤ a +ℤ b *ℤ b)
    → (a *ℤ x +ℤ b *ℤ y) ≤ℤ pos 0
    → ((r *ℤ r) *ℤ (a *ℤ a +ℤ b *ℤ b)) ≤ℤ ((a *ℤ x +ℤ b *ℤ y) *ℤ (a *ℤ x +ℤ b *ℤ y))
    → (a *ℤ (x -ℤ u) +ℤ b *ℤ (y -ℤ w)) ≤ℤ pos 0
    → ((r *ℤ r) *ℤ (a *ℤ a +ℤ b *ℤ b)) ≤ℤ ((a *ℤ (x -ℤ u) +ℤ b *ℤ (y -ℤ w)) *ℤ (a *ℤ (x -ℤ u) +ℤ b *ℤ (y -ℤ w)))
    → pos 0 ≤ℤ k → k ≤ℤ m
    → ((m *ℤ m) *ℤ (r *ℤ r)) ≤ℤ ((m *ℤ x -ℤ k *ℤ u) *ℤ (m *ℤ x -ℤ k *ℤ u) +ℤ (m *ℤ y -ℤ k *ℤ w) *ℤ (m *ℤ y -ℤ k *ℤ w))
way_outside a b x y u w r k m hn hs ks ht kt hk hm =
    let s : ℤ = a *ℤ x +ℤ b *ℤ y in
    let t : ℤ = a *ℤ (x -ℤ u) +ℤ b *ℤ (y -ℤ w) in
    let n : ℤ = a *ℤ a +ℤ b *ℤ b in
    let c : ℤ = (r *ℤ r) *ℤ n in
    let f = mixture_reaches s t c (m -ℤ k) k hs ht ks kt (gap_nonneg k m hm) hk in
    let g = along_le a b (m *ℤ x -ℤ k *ℤ u) (m *ℤ y -ℤ k *ℤ w) in
    cancel _ _ n hn
    (shown (a ∷ b ∷ x ∷ y ∷ u ∷ w ∷ r ∷ k ∷ m ∷ []) (sum_nonneg _ _ (gap_nonneg _ _ f) (gap_nonneg _ _ g)) (search quotes depth 40 fits 20000) tt)
