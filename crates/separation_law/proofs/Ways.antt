-- Straight ways that stay outside a disc round the origin.
use Rattle.std.proofs.Common.{◌≡◌, [], ◌∷◌, subst, arith, ℤ, pos, ◌+ℤ◌, ◌-ℤ◌, ◌*ℤ◌, ◌≤ℤ◌, ◌<ℤ◌}
use Rattle.std.proofs.lemmas.Int.{ints}
use Rattle.exact_algebra.proofs.Ring.{quotes, equal, shown}
use Rattle.exact_algebra.proofs.Order.{product_nonneg, sum_nonneg, gap_nonneg, cancel}
use Rattle.exact_algebra.proofs.Cauchy.{way_outside}
use Rattle.exact_algebra.proofs.Sizes.{product_positive}
use Rattle.fixed_vec.specs.declared.vector.V2.{V2}
use Rattle.fixed_vec.specs.Vector.{dot, minus, square, times}
use Rattle.crowd_data.specs.Safety.{ApartThroughout}

-- each point of the way from p to p - v is at least R from the origin
abbrev pub StaysOutside : V2 → V2 → ℤ → Type 0
StaysOutside p v R = (k m : ℤ) → pos 0 ≤ℤ k → k ≤ℤ m → (m *ℤ m *ℤ (R *ℤ R)) ≤ℤ square (minus (times m p) (times k v))

-- p lies against n, at least R from the line through the origin that n is normal to
pub record IsHeldOff (n p : V2) (R : ℤ) : Type 0 where
  pub against : dot n p ≤ℤ pos 0
  pub far : (R *ℤ R *ℤ square n) ≤ℤ (dot n p *ℤ dot n p)

-- where both ends are held off by one normal, the way stays outside
pub way_held : (n p v : V2) (R : ℤ) → pos 0 <ℤ square n → IsHeldOff n p R → IsHeldOff n (minus p v) R → StaysOutside p v R
way_held n p v R some start end k m hk hm = way_outside n.x n.y p.x p.y v.x v.y R k m some start.against start.far end.against end.far hk hm

-- one step is a part of t steps
pub part_of_way : (p v : V2) (R t : ℤ) → pos 0 <ℤ t → StaysOutside p (times t v) R → StaysOutside p v R
part_of_way p v R t ht way k m hk hm =
    let m0 : pos 0 ≤ℤ m = omega (arith, ints) in
    let part : k ≤ℤ (m *ℤ t) = shown (k ∷ m ∷ t ∷ [])
    (sum_nonneg _ _ (gap_nonneg k m hm) (product_nonneg m (t -ℤ pos 1) m0 (omega (arith, ints)))) (search quotes depth 40) tt in
    cancel _ _ (t *ℤ t) (product_positive t t ht ht)
    (shown (p.x ∷ p.y ∷ v.x ∷ v.y ∷ R ∷ t ∷ k ∷ m ∷ []) (gap_nonneg _ _ (way k (m *ℤ t) hk part)) (search quotes depth 60 fits 80000) tt)

-- the other way round, a difference changes its sign
flipped : (m x k u w : ℤ) → m *ℤ x -ℤ k *ℤ (u -ℤ w) ≡ m *ℤ x +ℤ k *ℤ (w -ℤ u)
flipped m x k u w = equal (m ∷ x ∷ k ∷ u ∷ w ∷ []) (search quotes depth 40 fits 20000) tt

-- two discs are apart throughout where the offset's way stays outside
pub apart_throughout : (a a_vel b b_vel : V2) (R : ℤ) → StaysOutside (minus b a) (minus a_vel b_vel) R → ApartThroughout a a_vel b b_vel R
apart_throughout a a_vel b b_vel R way k m hk hm some =
    let x = flipped m (b.x -ℤ a.x) k a_vel.x b_vel.x in
    let y = flipped m (b.y -ℤ a.y) k a_vel.y b_vel.y in
    subst (λ z. (m *ℤ m *ℤ (R *ℤ R)) ≤ℤ z) (λ i. x i *ℤ x i +ℤ y i *ℤ y i) (way k m hk hm)
