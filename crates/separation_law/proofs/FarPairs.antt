-- What is far off at the start is not reached by a way that is short enough.
use Rattle.std.proofs.Common.{◌≡◌, ◌+◌, ◌*◌, [], ◌∷◌, sym, subst, arith, ℤ, pos, ◌+ℤ◌, ◌-ℤ◌, ◌*ℤ◌, ◌≤ℤ◌, ◌<ℤ◌}
use Rattle.std.proofs.lemmas.Int.{ints, by_lt_z}
use Rattle.exact_algebra.proofs.Ring.{quotes, equal, shown}
use Rattle.exact_algebra.proofs.Order.{square_nonneg, product_nonneg, sum_nonneg, gap_nonneg}
use Rattle.exact_algebra.proofs.Cauchy.{along_le}
use Rattle.exact_algebra.proofs.Sizes.{whole_root_le}
use Rattle.fixed_vec.specs.declared.vector.V2.{V2}
use Rattle.fixed_vec.specs.Vector.{dot, minus, opposite, plus, square, times}
use Rattle.fixed_vec.proofs.Squares.{square-opposite, square_some}
use Rattle.crowd_data.specs.declared.pair.Place.{Place}
use Rattle.crowd_data.specs.Neighbours.{IsNear}
use Rattle.crowd_data.specs.Safety.{ApartThroughout}
use Rattle.separation_law.proofs.Ways.{StaysOutside, apart_throughout}

-- Cauchy's inequality, with bounds of the lengths
pub dot_le : (u v : V2) (a b : ℤ) → pos 0 ≤ℤ a → pos 0 ≤ℤ b → square u ≤ℤ (a *ℤ a) → square v ≤ℤ (b *ℤ b) → dot u v ≤ℤ (a *ℤ b)
dot_le u v a b ha hb h k = whole_root_le _ (a *ℤ b) (product_nonneg a b ha hb)
    (shown (u.x ∷ u.y ∷ v.x ∷ v.y ∷ a ∷ b ∷ [])
    (sum_nonneg _ _ (gap_nonneg _ _ (along_le u.x u.y v.x v.y))
    (sum_nonneg _ _ (product_nonneg _ _ (gap_nonneg _ _ h) (square_some v)) (product_nonneg _ _ (gap_nonneg _ _ k) (square_nonneg a))))
    (search quotes depth 40 fits 20000) tt)

-- the triangle inequality, with bounds of the lengths
pub sum_le : (u v : V2) (a b : ℤ) → pos 0 ≤ℤ a → pos 0 ≤ℤ b → square u ≤ℤ (a *ℤ a) → square v ≤ℤ (b *ℤ b) → square (plus u v) ≤ℤ ((a +ℤ b) *ℤ (a +ℤ b))
sum_le u v a b ha hb h k =
    let d = dot_le u v a b ha hb h k in
    shown (u.x ∷ u.y ∷ v.x ∷ v.y ∷ a ∷ b ∷ [])
    (sum_nonneg _ _ (sum_nonneg _ _ (gap_nonneg _ _ d) (gap_nonneg _ _ d)) (sum_nonneg _ _ (gap_nonneg _ _ h) (gap_nonneg _ _ k)))
    (search quotes depth 40 fits 20000) tt

-- p is farther off than R + s, and v no longer than s
pub far_way : (p v : V2) (R s : ℤ) → pos 0 ≤ℤ R → pos 0 ≤ℤ s → ((R +ℤ s) *ℤ (R +ℤ s)) <ℤ square p → square v ≤ℤ (s *ℤ s) → StaysOutside p v R
far_way p v R s hR hs far slow k m hk hm = by_lt_z _ _
    (λ near.
    let m0 : pos 0 ≤ℤ m = omega (arith, ints) in
    let a : V2 = minus (times m p) (times k v) in
    let radius : (m *ℤ R) *ℤ (m *ℤ R) ≡ m *ℤ m *ℤ (R *ℤ R) = equal (m ∷ R ∷ []) (search quotes depth 30) tt in
    let inside : square a ≤ℤ ((m *ℤ R) *ℤ (m *ℤ R)) = omega (arith, ints) in
    let way : square (times k v) ≤ℤ ((m *ℤ s) *ℤ (m *ℤ s)) =
    shown (v.x ∷ v.y ∷ s ∷ k ∷ m ∷ [])
    (sum_nonneg _ _ (product_nonneg _ (k *ℤ k) (gap_nonneg _ _ slow) (square_nonneg k))
    (product_nonneg _ (s *ℤ s) (product_nonneg (m -ℤ k) (m +ℤ k) (gap_nonneg _ _ hm) (sum_nonneg m k m0 hk)) (square_nonneg s)))
    (search quotes depth 40 fits 20000) tt in
    let reach = sum_le a (times k v) (m *ℤ R) (m *ℤ s) (product_nonneg m R m0 hR) (product_nonneg m s m0 hs) inside way in
    let far_more : ((R +ℤ s) *ℤ (R +ℤ s) +ℤ pos 1) ≤ℤ square p = omega (arith, ints) in
    let none : (m *ℤ m) ≤ℤ pos 0 =
    shown (p.x ∷ p.y ∷ v.x ∷ v.y ∷ R ∷ s ∷ k ∷ m ∷ [])
    (sum_nonneg _ _ (gap_nonneg _ _ reach) (product_nonneg _ (m *ℤ m) (gap_nonneg _ _ far_more) (square_nonneg m)))
    (search quotes depth 40 fits 20000) tt in
    let least : (m *ℤ m *ℤ (R *ℤ R)) ≤ℤ pos 0 =
    shown (m ∷ R ∷ []) (product_nonneg (pos 0 -ℤ m *ℤ m) (R *ℤ R) (gap_nonneg _ _ none) (square_nonneg R)) (search quotes depth 30) tt in
    let squares = square_some a in
    absurd (omega (arith, ints)))
    (λ l. l)

-- the law of far pairs
pub far_apart : (a b : Place) (a_vel b_vel : V2) → ¬ IsNear a b → square a_vel ≤ℤ pos (a.speed * a.speed) → square b_vel ≤ℤ pos (b.speed * b.speed)
    → ApartThroughout a.pos a_vel b.pos b_vel (pos (a.radius + b.radius))
far_apart a b a_vel b_vel apart a_slow b_slow =
    let p = minus b.pos a.pos in
    let turn : square (minus a.pos b.pos) ≡ square p = equal (a.pos.x ∷ a.pos.y ∷ b.pos.x ∷ b.pos.y ∷ []) (search quotes depth 40 fits 20000) tt in
    let back : square (opposite b_vel) ≤ℤ pos (b.speed * b.speed) = subst (λ z. z ≤ℤ pos (b.speed * b.speed)) (sym (square-opposite b_vel)) b_slow in
    let slow = sum_le a_vel (opposite b_vel) (pos a.speed) (pos b.speed) (omega (arith, ints)) (omega (arith, ints)) a_slow back in
    let gap : ((pos (a.radius + b.radius) +ℤ pos (a.speed + b.speed)) *ℤ (pos (a.radius + b.radius) +ℤ pos (a.speed + b.speed))) <ℤ square p =
    omega (arith, ints, apart, square_some (minus a.pos b.pos)) in
    apart_throughout a.pos a_vel b.pos b_vel (pos (a.radius + b.radius))
    (far_way p (minus a_vel b_vel) (pos (a.radius + b.radius)) (pos (a.speed + b.speed)) (omega (arith, ints)) (omega (arith, ints)) gap slow)
