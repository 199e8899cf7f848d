-- The definitions on numbers worked out by hand.
use Rattle.std.proofs.Common.{◌≡◌, [], ◌∷◌, refl, arith, ℤ, pos, negsuc, ◌+ℤ◌, ◌-ℤ◌, ◌*ℤ◌, ◌≤ℤ◌, ◌<ℤ◌}
use Rattle.std.proofs.lemmas.Int.{ints}
use Rattle.std.proofs.lemmas.List.Elements.{All-cons}
use Rattle.exact_algebra.proofs.Ring.{quotes, shown}
use Rattle.exact_algebra.proofs.Order.{square_nonneg, product_nonneg, sum_nonneg, gap_nonneg}
use Rattle.exact_algebra.proofs.Rounding.{ceil_root_between}
use Rattle.fixed_vec.specs.Vector.{zero_vector}
use Rattle.fixed_vec.specs.HalfPlane.{Plane, drawn_of, relieved_of, whole_length}
use Rattle.fixed_vec.specs.Point.{IsIn, rounded_of}
use Rattle.fixed_vec.specs.Meeting.{IsEmpty, Nearest}

-- L(3, 4) = 5, L(1, 1) = 2
length_five : whole_length (record { x = pos 3; y = pos 4 }) ≡ 5
length_five = ceil_root_between 25 5 (omega arith) (omega arith)

length_two : whole_length (record { x = pos 1; y = pos 1 }) ≡ 2
length_two = ceil_root_between 2 2 (omega arith) (omega arith)

-- (1/2, -1/2) is rounded to (1, 0)
halves_up : rounded_of (record { x = pos 1; y = negsuc 0; q = pos 2 }) ≡ record { x = pos 1; y = pos 0 }
halves_up = refl

-- (7/3, -7/3) is rounded to (2, -2)
thirds : rounded_of (record { x = pos 7; y = negsuc 6; q = pos 3 }) ≡ record { x = pos 2; y = negsuc 1 }
thirds = refl

-- the share of a lower agent that meets another one head-on
head_on : Plane
head_on = record { n = record { x = negsuc 5999; y = pos 0 }; c = negsuc 2699999 }

drawn : drawn_of head_on ≡ record { n = record { x = negsuc 5999; y = pos 0 }; c = negsuc 2696999 }
unfolding head_on
drawn = refl

-- ---- meetings

abbrev right_of : ℤ → Plane
right_of c = record { n = record { x = pos 1; y = pos 0 }; c = c }

abbrev left_of : ℤ → Plane
left_of c = record { n = record { x = negsuc 0; y = pos 0 }; c = c }

abbrev above : ℤ → Plane
above c = record { n = record { x = pos 0; y = pos 1 }; c = c }

-- of the points to the right of a and above b, that corner is nearest to a point to the left and below
corner_nearest : (o p a b x y q : ℤ) → pos 0 <ℤ q → o ≤ℤ a → p ≤ℤ b → (a *ℤ q) ≤ℤ x → (b *ℤ q) ≤ℤ y
    → (((a -ℤ o *ℤ pos 1) *ℤ (a -ℤ o *ℤ pos 1) +ℤ (b -ℤ p *ℤ pos 1) *ℤ (b -ℤ p *ℤ pos 1)) *ℤ (q *ℤ q))
    ≤ℤ (((x -ℤ o *ℤ q) *ℤ (x -ℤ o *ℤ q) +ℤ (y -ℤ p *ℤ q) *ℤ (y -ℤ p *ℤ q)) *ℤ (pos 1 *ℤ pos 1))
corner_nearest o p a b x y q hq ho hp hx hy =
    let q0 : pos 0 ≤ℤ q = omega (arith, ints) in
    let first : pos 0 ≤ℤ ((x -ℤ a *ℤ q) *ℤ ((x -ℤ a *ℤ q) +ℤ ((a -ℤ o) *ℤ q +ℤ (a -ℤ o) *ℤ q))) =
    product_nonneg _ _ (gap_nonneg _ _ hx)
    (sum_nonneg _ _ (gap_nonneg _ _ hx) (sum_nonneg _ _ (product_nonneg _ q (gap_nonneg _ _ ho) q0) (product_nonneg _ q (gap_nonneg _ _ ho) q0))) in
    let second : pos 0 ≤ℤ ((y -ℤ b *ℤ q) *ℤ ((y -ℤ b *ℤ q) +ℤ ((b -ℤ p) *ℤ q +ℤ (b -ℤ p) *ℤ q))) =
    product_nonneg _ _ (gap_nonneg _ _ hy)
    (sum_nonneg _ _ (gap_nonneg _ _ hy) (sum_nonneg _ _ (product_nonneg _ q (gap_nonneg _ _ hp) q0) (product_nonneg _ q (gap_nonneg _ _ hp) q0))) in
    shown (o ∷ p ∷ a ∷ b ∷ x ∷ y ∷ q ∷ []) (sum_nonneg _ _ first second) (search quotes depth 40 fits 20000) tt

-- x at least 5 and y at least 2: (5, 2) is nearest to the origin
corner : Nearest (right_of (pos 5) ∷ above (pos 2) ∷ []) zero_vector (record { x = pos 5; y = pos 2; q = pos 1 })
corner = record {
  meets =
      record {
        point = omega (arith, ints);
        inside =
            All-cons (λ plane. IsIn plane (record { x = pos 5; y = pos 2; q = pos 1 })) (right_of (pos 5)) (above (pos 2) ∷ []) (omega (arith, ints))
            (All-cons (λ plane. IsIn plane (record { x = pos 5; y = pos 2; q = pos 1 })) (above (pos 2)) [] (omega (arith, ints)) (λ k d l. absurd (omega arith)));
      };
  no_farther = λ v h.
      let a : (pos 5 *ℤ v.q) ≤ℤ (pos 1 *ℤ v.x +ℤ pos 0 *ℤ v.y) = h.inside 0 (right_of (pos 5)) (omega arith) in
      let b : (pos 2 *ℤ v.q) ≤ℤ (pos 0 *ℤ v.x +ℤ pos 1 *ℤ v.y) = h.inside 1 (right_of (pos 5)) (omega arith) in
      corner_nearest (pos 0) (pos 0) (pos 5) (pos 2) v.x v.y v.q h.point (omega (arith, ints)) (omega (arith, ints)) (omega (arith, ints)) (omega (arith, ints));
}

-- x at least 1 and at most 0: nothing
nothing : IsEmpty (right_of (pos 1) ∷ left_of (pos 0) ∷ [])
nothing v h =
    let p : pos 0 <ℤ v.q = h.point in
    let a : (pos 1 *ℤ v.q) ≤ℤ (pos 1 *ℤ v.x +ℤ pos 0 *ℤ v.y) = h.inside 0 (right_of (pos 1)) (omega arith) in
    let b : (pos 0 *ℤ v.q) ≤ℤ (negsuc 0 *ℤ v.x +ℤ pos 0 *ℤ v.y) = h.inside 1 (right_of (pos 1)) (omega arith) in
    omega (arith, ints)

-- relieved by one, the two have the origin, and nothing is nearer to it
relieved : Nearest (relieved_of (right_of (pos 1)) 1 ∷ relieved_of (left_of (pos 0)) 1 ∷ []) zero_vector (record { x = pos 0; y = pos 0; q = pos 1 })
relieved =
    rw (ceil_root_between 1 1 (omega arith) (omega arith))
    (record {
      meets =
          record {
            point = omega (arith, ints);
            inside =
                All-cons (λ plane. IsIn plane (record { x = pos 0; y = pos 0; q = pos 1 })) (right_of (pos 0)) (left_of (negsuc 0) ∷ []) (omega (arith, ints))
                (All-cons (λ plane. IsIn plane (record { x = pos 0; y = pos 0; q = pos 1 })) (left_of (negsuc 0)) [] (omega (arith, ints)) (λ k d l. absurd (omega arith)));
          };
      no_farther = λ v h. shown (v.x ∷ v.y ∷ v.q ∷ []) (sum_nonneg _ _ (square_nonneg v.x) (square_nonneg v.y)) (search quotes depth 40 fits 9000) tt;
    })
