-- Half-planes whose weighted normals add up to zero, and whose weighted offsets to more than zero, exclude each other.
use Rattle.std.proofs.Common.{◌≡◌, ℕ, ◌^◌, ◌<◌, ◌≤◌, List, [], ◌∷◌, length, get_or, subst, sym, arith, ℤ, pos, ◌+ℤ◌, ◌-ℤ◌, ◌*ℤ◌, ◌≤ℤ◌, ◌<ℤ◌}
use Rattle.std.proofs.lemmas.Int.{ints}
use Rattle.std.proofs.Math.IntN.{pos-*ℤ-pos}
use Rattle.exact_algebra.specs.Numbers.{ceil}
use Rattle.exact_algebra.proofs.Ring.{quotes, equal, shown}
use Rattle.exact_algebra.proofs.Order.{square_nonneg, product_nonneg, product-le, sum_nonneg, gap_nonneg, cancel}
use Rattle.exact_algebra.proofs.Rounding.{ceil_lt}
use Rattle.fixed_vec.specs.declared.vector.V2.{V2}
use Rattle.fixed_vec.specs.Vector.{cross, perp, square}
use Rattle.fixed_vec.specs.HalfPlane.{Plane, FitsPlane, determinant, relieved_of, whole_length}
use Rattle.fixed_vec.specs.Point.{Rational, IsPoint, IsIn}
use Rattle.fixed_vec.specs.Meeting.{Meeting, relieved_after}
use Rattle.planar_line.proofs.Border.{height, zero_nonneg}
use Rattle.planar_line.proofs.Reliefs.{length-relieved_after, plane-hard, plane-soft, whole_length-le}
use Rattle.planar_line.specs.Relief.{no_plane}
use Rattle.planar_program.specs.Certificate.{IsParty, IsTooSmall, moved_back}

-- ---- half-planes that exclude each other
module _ (d : ℕ) (p : Rational) (point : IsPoint p) (a b c : Plane) (i j k : ℤ) where
  -- none of three half-planes, weighed by the slope of the other two, lies away from p, so nothing is lacking
  weighed_exclude : pos 0 ≤ℤ (cross b.n c.n *ℤ height (moved_back a i d) p) → pos 0 ≤ℤ (cross c.n a.n *ℤ height (moved_back b j d) p) → pos 0 ≤ℤ (cross a.n b.n *ℤ height (moved_back c k d) p)
      → IsTooSmall (determinant a b c) (cross b.n c.n *ℤ i +ℤ cross c.n a.n *ℤ j +ℤ cross a.n b.n *ℤ k) d → ⊥
  weighed_exclude f g h small =
      let made = pos d *ℤ (cross b.n c.n *ℤ i +ℤ cross c.n a.n *ℤ j +ℤ cross a.n b.n *ℤ k) in
      let short : ((determinant a b c -ℤ made) *ℤ p.q) ≤ℤ (pos 0 *ℤ p.q) =
      shown (a.n.x ∷ a.n.y ∷ a.c ∷ b.n.x ∷ b.n.y ∷ b.c ∷ c.n.x ∷ c.n.y ∷ c.c ∷ p.x ∷ p.y ∷ p.q ∷ pos d ∷ i ∷ j ∷ k ∷ [])
      (sum_nonneg _ _ (sum_nonneg _ _ f g) h)
      (search quotes depth 40 fits 20000) tt in
      let none = cancel (determinant a b c -ℤ made) (pos 0) p.q point short in
      omega (arith, ints)

  pub three_exclude : pos 0 ≤ℤ cross b.n c.n → pos 0 ≤ℤ cross c.n a.n → pos 0 ≤ℤ cross a.n b.n
      → IsTooSmall (determinant a b c) (cross b.n c.n *ℤ i +ℤ cross c.n a.n *ℤ j +ℤ cross a.n b.n *ℤ k) d
      → IsIn (moved_back a i d) p → IsIn (moved_back b j d) p → IsIn (moved_back c k d) p → ⊥
  three_exclude f g h small in_a in_b in_c = weighed_exclude
      (product_nonneg (cross b.n c.n) (height (moved_back a i d) p) f (gap_nonneg _ _ in_a))
      (product_nonneg (cross c.n a.n) (height (moved_back b j d) p) g (gap_nonneg _ _ in_b))
      (product_nonneg (cross a.n b.n) (height (moved_back c k d) p) h (gap_nonneg _ _ in_c))
      small

  -- a third one whose weight is zero may lie anywhere
  pub two_exclude : pos 0 ≤ℤ cross b.n c.n → pos 0 ≤ℤ cross c.n a.n → cross a.n b.n ≡ pos 0
      → IsTooSmall (determinant a b c) (cross b.n c.n *ℤ i +ℤ cross c.n a.n *ℤ j +ℤ cross a.n b.n *ℤ k) d
      → IsIn (moved_back a i d) p → IsIn (moved_back b j d) p → ⊥
  two_exclude f g level small in_a in_b = weighed_exclude
      (product_nonneg (cross b.n c.n) (height (moved_back a i d) p) f (gap_nonneg _ _ in_a))
      (product_nonneg (cross c.n a.n) (height (moved_back b j d) p) g (gap_nonneg _ _ in_b))
      (zero_nonneg (cross a.n b.n) (height (moved_back c k d) p) level)
      small

pub cross_perp-nonneg : (n : V2) → pos 0 ≤ℤ cross n (perp n)
cross_perp-nonneg n = shown (n.x ∷ n.y ∷ []) (sum_nonneg _ _ (square_nonneg n.x) (square_nonneg n.y)) (search quotes depth 40 fits 20000) tt

-- what lies across a half-plane keeps the bounds
pub across-fits : (plane : Plane) → FitsPlane plane → FitsPlane (record { n = perp plane.n; c = pos 0 })
across-fits plane fits =
    let same : square (perp plane.n) ≡ square plane.n = equal (plane.n.x ∷ plane.n.y ∷ []) (search quotes depth 40 fits 20000) tt in
    record {
      nonzero = subst (λ z. pos 0 <ℤ z) (sym same) fits.nonzero;
      normal = subst (λ z. z <ℤ pos (2 ^ 64)) (sym same) fits.normal;
      offset = omega arith;
    }

-- ---- which reliefs are too small
-- nothing is made up for where nothing gives way
pub too_small_by_none : (lack give : ℤ) (d : ℕ) → pos 0 <ℤ lack → give ≤ℤ pos 0 → IsTooSmall lack give d
too_small_by_none lack give d more none =
    let made : (pos d *ℤ give) ≤ℤ pos 0 = shown (pos d ∷ give ∷ []) (product_nonneg (pos d) (pos 0 -ℤ give) (omega (arith, ints)) (gap_nonneg _ _ none)) (search quotes depth 30) tt in
    omega (arith, ints)

-- a relief below the quotient, rounded up, is too small
pub too_small_below : (lack give : ℤ) (d : ℕ) → pos 0 <ℤ give → pos d <ℤ ceil lack give → IsTooSmall lack give d
too_small_below lack give d positive below =
    let last = ceil_lt lack give positive in
    let next : ((pos d +ℤ pos 1) *ℤ give) ≤ℤ (ceil lack give *ℤ give) = product-le (pos d +ℤ pos 1) (ceil lack give) give (omega (arith, ints)) (omega (arith, ints)) in
    let step : (pos d +ℤ pos 1) *ℤ give ≡ pos d *ℤ give +ℤ give = equal (pos d ∷ give ∷ []) (search quotes depth 30) tt in
    omega (arith, ints)

-- ---- the half-planes of a list
module _ (hard : ℕ) (planes : List Plane) (le : hard ≤ length planes) (k : ℕ) (plane : Plane) (l : k < length planes) (read : plane ≡ get_or planes k plane) (fits : FitsPlane plane) where
  in-list : (d : ℕ) (p : Rational) → Meeting (relieved_after hard d planes) p → IsIn (get_or (relieved_after hard d planes) k no_plane) p
  in-list d p meets = let long = length-relieved_after hard d planes le in meets.inside k no_plane (omega arith)

  pub hard_party : k < hard → IsParty hard planes plane (pos 0)
  hard_party few = record {
    fits = record { bounds = fits; small = omega arith };
    has = λ d p meets.
        let still : plane.c -ℤ pos d *ℤ pos 0 ≡ plane.c = equal (plane.c ∷ pos d ∷ []) (search quotes depth 30) tt in
        let inside : IsIn plane p = subst (λ g. IsIn g p) (sym (plane-hard hard d planes le k plane l read few)) (in-list d p meets) in
        subst (λ z. (z *ℤ p.q) ≤ℤ (plane.n.x *ℤ p.x +ℤ plane.n.y *ℤ p.y)) (sym still) inside;
  }

  pub soft_party : hard ≤ k → IsParty hard planes plane (pos (whole_length plane.n))
  soft_party more = record {
    fits = record { bounds = fits; small = whole_length-le plane fits };
    has = λ d p meets.
        let inside : IsIn (relieved_of plane d) p = subst (λ g. IsIn g p) (sym (plane-soft hard d planes le k plane l read more)) (in-list d p meets) in
        subst (λ z. ((plane.c -ℤ z) *ℤ p.q) ≤ℤ (plane.n.x *ℤ p.x +ℤ plane.n.y *ℤ p.y)) (sym (pos-*ℤ-pos d (whole_length plane.n))) inside;
  }
