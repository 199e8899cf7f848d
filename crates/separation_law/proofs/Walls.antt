-- A disc that is clear of a segment stays off it with a velocity that respects the segment.
use Rattle.std.proofs.Common.{◌≡◌, ⊎_elim, refl, sym, subst, ◌≤◌, Bool, true, false, ◌&&◌, [], ◌∷◌, arith, ℤ, pos, negsuc, ◌+ℤ◌, ◌-ℤ◌, ◌*ℤ◌, ◌≤ℤ◌, ◌<ℤ◌, int_le}
use Rattle.std.specs.Int.{int_min, int_max}
use Rattle.std.proofs.lemmas.Int.{ints, clamps, by_lt_z}
use Rattle.exact_algebra.proofs.Ring.{quotes, equal, shown}
use Rattle.exact_algebra.proofs.Order.{product_nonneg, gap_nonneg}
use Rattle.exact_algebra.proofs.Sizes.{product_positive}
use Rattle.fixed_vec.specs.declared.vector.V2.{V2}
use Rattle.fixed_vec.specs.Vector.{cross, dot, minus, opposite, perp, square, zero_vector}
use Rattle.fixed_vec.specs.HalfPlane.{whole_length}
use Rattle.fixed_vec.specs.Point.{IsIn, whole}
use Rattle.crowd_data.specs.declared.agent.Agent.{Agent}
use Rattle.crowd_data.specs.declared.segment.Segment.{Segment}
use Rattle.crowd_data.specs.Safety.{OffThroughout}
use Rattle.crowd_data.specs.Walls.{IsClear, in_reach, normal_beside, plane_from, reach_of, wall_plane}
use Rattle.crowd_data.proofs.ClearOfSegment.{beside_is, clear_end, clear_start, square_some}
use Rattle.crowd_data.proofs.WallCases.{normal_elim, wall_elim}
use Rattle.separation_law.specs.Respecting.{Respects, StaysOffFor}
use Rattle.separation_law.proofs.Pairs.{along_plane, length_reaches}
use Rattle.separation_law.proofs.WallWays.{IsBorder, border_off, reach_off, rest_off, slower_off}

-- ---- the borders of the three cases

module _ (at : V2) (s : Segment) (R : ℤ) where
  abbrev p : V2
  p = minus at s.a

  abbrev d : V2
  d = minus s.b s.a

  -- a border along the segment, with the normal n on the disc's side
  left_border : pos 0 <ℤ square d → pos 0 ≤ℤ cross d p → (R *ℤ R *ℤ square d) ≤ℤ (cross p d *ℤ cross p d) → IsBorder p d R (perp d) (minus s.a at)
  left_border long side far =
      let same : square d ≡ square (perp d) = equal (s.a.x ∷ s.a.y ∷ s.b.x ∷ s.b.y ∷ []) (search quotes depth 40 fits 20000) tt in
      let zero : pos 0 ≤ℤ pos 0 = omega (arith, ints) in
      record {
        nonzero = omega (arith, ints);
        held = record {
          against = shown (at.x ∷ at.y ∷ s.a.x ∷ s.a.y ∷ s.b.x ∷ s.b.y ∷ []) side (search quotes depth 40 fits 20000) tt;
          far = shown (at.x ∷ at.y ∷ s.a.x ∷ s.a.y ∷ s.b.x ∷ s.b.y ∷ R ∷ []) (gap_nonneg _ _ far) (search quotes depth 60 fits 80000) tt;
        };
        beyond = λ j i hj hi. shown (at.x ∷ at.y ∷ s.a.x ∷ s.a.y ∷ s.b.x ∷ s.b.y ∷ j ∷ i ∷ []) zero (search quotes depth 60 fits 80000) tt;
      }

  right_border : pos 0 <ℤ square d → cross d p ≤ℤ pos 0 → (R *ℤ R *ℤ square d) ≤ℤ (cross p d *ℤ cross p d) → IsBorder p d R (opposite (perp d)) (minus s.a at)
  right_border long side far =
      let same : square d ≡ square (opposite (perp d)) = equal (s.a.x ∷ s.a.y ∷ s.b.x ∷ s.b.y ∷ []) (search quotes depth 40 fits 20000) tt in
      let zero : pos 0 ≤ℤ pos 0 = omega (arith, ints) in
      record {
        nonzero = omega (arith, ints);
        held = record {
          against = shown (at.x ∷ at.y ∷ s.a.x ∷ s.a.y ∷ s.b.x ∷ s.b.y ∷ []) (gap_nonneg _ _ side) (search quotes depth 40 fits 20000) tt;
          far = shown (at.x ∷ at.y ∷ s.a.x ∷ s.a.y ∷ s.b.x ∷ s.b.y ∷ R ∷ []) (gap_nonneg _ _ far) (search quotes depth 60 fits 80000) tt;
        };
        beyond = λ j i hj hi. shown (at.x ∷ at.y ∷ s.a.x ∷ s.a.y ∷ s.b.x ∷ s.b.y ∷ j ∷ i ∷ []) zero (search quotes depth 60 fits 80000) tt;
      }

  beside_border : pos 0 <ℤ dot p d → dot p d <ℤ square d → (R *ℤ R *ℤ square d) ≤ℤ (cross p d *ℤ cross p d) → IsBorder p d R (normal_beside p d) (minus s.a at)
  beside_border low high far =
      let long : pos 0 <ℤ square d = omega (arith, ints) in
      normal_elim p d (λ n. IsBorder p d R n (minus s.a at)) (λ left. left_border long (omega (arith, ints)) far) (λ right. right_border long right far)

  -- a border across the way from an end to the disc
  start_border : pos 0 <ℤ square p → (R *ℤ R) ≤ℤ square p → dot p d ≤ℤ pos 0 → IsBorder p d R p (minus s.a at)
  start_border some far behind =
      let nonneg : pos 0 ≤ℤ square p = omega (arith, ints) in
      record {
        nonzero = some;
        held = record {
          against = shown (at.x ∷ at.y ∷ s.a.x ∷ s.a.y ∷ []) nonneg (search quotes depth 40 fits 20000) tt;
          far = shown (at.x ∷ at.y ∷ s.a.x ∷ s.a.y ∷ R ∷ []) (product_nonneg (square p) _ nonneg (gap_nonneg _ _ far)) (search quotes depth 60 fits 80000) tt;
        };
        beyond = λ j i hj hi. shown (at.x ∷ at.y ∷ s.a.x ∷ s.a.y ∷ s.b.x ∷ s.b.y ∷ j ∷ i ∷ []) (product_nonneg j _ hj (gap_nonneg _ _ behind)) (search quotes depth 60 fits 80000) tt;
      }

  end_border : pos 0 <ℤ square (minus at s.b) → (R *ℤ R) ≤ℤ square (minus at s.b) → square d ≤ℤ dot p d → IsBorder p d R (minus at s.b) (minus s.b at)
  end_border some far past =
      let nonneg : pos 0 ≤ℤ square (minus at s.b) = omega (arith, ints) in
      record {
        nonzero = some;
        held = record {
          against = shown (at.x ∷ at.y ∷ s.b.x ∷ s.b.y ∷ []) nonneg (search quotes depth 40 fits 20000) tt;
          far = shown (at.x ∷ at.y ∷ s.b.x ∷ s.b.y ∷ R ∷ []) (product_nonneg (square (minus at s.b)) _ nonneg (gap_nonneg _ _ far)) (search quotes depth 60 fits 80000) tt;
        };
        beyond = λ j i hj hi.
            shown (at.x ∷ at.y ∷ s.a.x ∷ s.a.y ∷ s.b.x ∷ s.b.y ∷ j ∷ i ∷ []) (product_nonneg (i -ℤ j) _ (gap_nonneg _ _ hi) (gap_nonneg _ _ past)) (search quotes depth 60 fits 80000) tt;
      }

-- ---- the three ways to respect a segment

le_holds : (a b : ℤ) → a ≤ℤ b → int_le a b ≡ true
le_holds a b h = grind (arith, ints)

all_hold : (a b c d : Bool) → a ≡ true → b ≡ true → c ≡ true → d ≡ true → ((a && b) && (c && d)) ≡ true
all_hold a b c d e f g h = rw (e, f, g, h) refl

module _ (at : V2) (agent : Agent) (s : Segment) (v : V2) (some_radius : 1 ≤ agent.radius) (some_horizon : 1 ≤ agent.wall_horizon) where
  plane_off : (n q : V2) → IsBorder (minus at s.a) (minus s.b s.a) (pos agent.radius) n (minus q at) → IsIn (plane_from n q at agent) (whole v) → StaysOffFor at agent s v
  plane_off n q border inside k m j i hk hm hm0 hj hi hi0 =
      border_off (minus at s.a) (minus s.b s.a) n (minus q at) v (pos agent.radius) (pos (whole_length n)) (pos agent.wall_horizon) k m j i border
      (omega (arith, ints)) (omega (arith, ints)) (omega (arith, ints)) (length_reaches n) (along_plane (plane_from n q at agent) v inside) hk hm hj hi

  -- in reach, with the wall plane
  wall_off : IsClear at agent.radius s → IsIn (wall_plane at agent s) (whole v) → StaysOffFor at agent s v
  wall_off clear =
      let one = square_some agent.radius some_radius in
      wall_elim at agent s (λ plane. IsIn plane (whole v) → StaysOffFor at agent s v)
      (λ low high. plane_off _ s.a (beside_border at s (pos agent.radius) low high ((beside_is (minus at s.a) (minus s.b s.a) agent.radius low high).1 clear)))
      (λ behind.
      let far = clear_start at agent.radius s clear in
      plane_off _ s.a (start_border at s (pos agent.radius) (omega (arith, ints)) far behind))
      (λ past.
      let far = clear_end at agent.radius s clear in
      plane_off _ s.b (end_border at s (pos agent.radius) (omega (arith, ints)) far past))

  -- out of reach, at most at the greatest speed: along one of the axes the disc is far off
  axis_off : (n : V2) → square n ≡ pos 1 → square v ≤ℤ (pos agent.speed *ℤ pos agent.speed)
      → pos (reach_of agent) ≤ℤ dot n (minus at s.a) → pos (reach_of agent) ≤ℤ dot n (minus (minus at s.a) (minus s.b s.a)) → StaysOffFor at agent s v
  axis_off n unit slow near far k m j i hk hm hm0 hj hi hi0 =
      reach_off n (minus at s.a) (minus s.b s.a) v (pos agent.radius) (pos agent.wall_horizon) (pos agent.speed) k m j i unit
      (omega (arith, ints)) (omega (arith, ints)) (omega (arith, ints)) near far slow hk hm hj hi

  out_off : in_reach at agent s ≡ false → square v ≤ℤ (pos agent.speed *ℤ pos agent.speed) → StaysOffFor at agent s v
  out_off out slow =
      let g : ℤ = pos (reach_of agent) in
      by_lt_z at.x (int_min s.a.x s.b.x -ℤ g)
      (λ h. axis_off (record { x = negsuc 0; y = pos 0 }) refl slow (omega (arith, ints, clamps)) (omega (arith, ints, clamps)))
      (λ h1. by_lt_z (int_max s.a.x s.b.x +ℤ g) at.x
      (λ h. axis_off (record { x = pos 1; y = pos 0 }) refl slow (omega (arith, ints, clamps)) (omega (arith, ints, clamps)))
      (λ h2. by_lt_z at.y (int_min s.a.y s.b.y -ℤ g)
      (λ h. axis_off (record { x = pos 0; y = negsuc 0 }) refl slow (omega (arith, ints, clamps)) (omega (arith, ints, clamps)))
      (λ h3. by_lt_z (int_max s.a.y s.b.y +ℤ g) at.y
      (λ h. axis_off (record { x = pos 0; y = pos 1 }) refl slow (omega (arith, ints, clamps)) (omega (arith, ints, clamps)))
      (λ h4. absurd (cc (out, all_hold _ _ _ _ (le_holds (int_min s.a.x s.b.x -ℤ g) at.x h1) (le_holds at.x (int_max s.a.x s.b.x +ℤ g) h2) (le_holds (int_min s.a.y s.b.y -ℤ g) at.y h3) (le_holds at.y (int_max s.a.y s.b.y +ℤ g) h4)))))))

  -- at rest
  still_off : IsClear at agent.radius s → StaysOffFor at agent s zero_vector
  still_off clear k m j i hk hm hm0 hj hi hi0 =
      rest_off (minus at s.a) (minus s.b s.a) (pos agent.radius) (pos agent.wall_horizon) k m j i (clear j i hj hi hi0)

  -- the law
  pub stays_off_for : IsClear at agent.radius s → Respects at agent s v → StaysOffFor at agent s v
  stays_off_for clear respects = ⊎_elim
      (λ h. wall_off clear h.1)
      (λ h. ⊎_elim (λ h. out_off h.0 h.1) (λ still. subst (StaysOffFor at agent s) (sym still) (still_off clear)) h)
      respects

  -- and for the one step
  pub stays_off : IsClear at agent.radius s → Respects at agent s v → OffThroughout at v agent.radius s
  stays_off clear respects k m j i hk hm hm0 hj hi hi0 =
      let t : ℤ = pos agent.wall_horizon in
      let more : pos 0 ≤ℤ (m *ℤ (t -ℤ pos 1)) = product_nonneg m (t -ℤ pos 1) (omega (arith, ints)) (omega (arith, ints)) in
      let e : m *ℤ (t -ℤ pos 1) ≡ m *ℤ t -ℤ m = equal (m ∷ t ∷ []) (search quotes depth 30) tt in
      slower_off (minus at s.a) (minus s.b s.a) v (pos agent.radius) t k m j i (omega (arith, ints))
      (stays_off_for clear respects k (m *ℤ t) j i hk (omega (arith, ints)) (product_positive m t hm0 (omega (arith, ints))) hj hi hi0)
