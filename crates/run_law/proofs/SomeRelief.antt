-- Half-planes whose normals aren't zero hold each point once they are relieved by enough. So where the hard
-- ones have a common point, there is a least relief with a point that is nearest to the preferred velocity.
use Rattle.std.proofs.Common.{ℕ, zero, suc, ◌+◌, ◌*◌, ◌<◌, ◌≤◌, List, [], ◌∷◌, ◌++◌, map, All, arith, pos, ◌+ℤ◌, ◌-ℤ◌, ◌*ℤ◌, ◌≤ℤ◌, ◌<ℤ◌, unsigned_abs, mul-le-mul}
use Rattle.std.proofs.lemmas.Int.{ints}
use Rattle.std.proofs.lemmas.List.Elements.{All-append, All-cons, All-head, All-map, All-nil, All-tail, All-weaker}
use Rattle.exact_algebra.proofs.Order.{gap_nonneg, product_nonneg, sum_nonneg}
use Rattle.exact_algebra.proofs.Ring.{quotes, shown}
use Rattle.exact_algebra.proofs.Rounding.{ceil_root_reaches}
use Rattle.fixed_vec.specs.declared.vector.V2.{V2}
use Rattle.fixed_vec.specs.Vector.{square}
use Rattle.fixed_vec.specs.HalfPlane.{Plane, relieved_of, whole_length}
use Rattle.fixed_vec.specs.Meeting.{IsEmpty, Meeting, Nearest}
use Rattle.fixed_vec.specs.Point.{IsIn, IsPoint, Rational}
use Rattle.planar_line.proofs.Reliefs.{relieved_more}
use Rattle.planar_program.proofs.Existence.{nearest_or_none}
use Rattle.exact_algebra.proofs.FirstNumber.{first_by}

-- ---- one half-plane

-- a normal that isn't zero has some length
some_length : (n : V2) → pos 0 <ℤ square n → 1 ≤ whole_length n
some_length n nonzero = by (whole_length n) (ceil_root_reaches (unsigned_abs (square n)))
  where
    by : (l : ℕ) → unsigned_abs (square n) ≤ l * l → 1 ≤ l
    by zero h = absurd (omega (arith, ints))
    by (suc l) h = omega arith

-- what a point lacks to be in the half-plane is enough
abbrev lacking : Plane → Rational → ℕ
lacking plane p = unsigned_abs (plane.c *ℤ p.q -ℤ (plane.n.x *ℤ p.x +ℤ plane.n.y *ℤ p.y))

enough_of : (plane : Plane) (p : Rational) → pos 0 <ℤ square plane.n → IsPoint p → IsIn (relieved_of plane (lacking plane p)) p
enough_of plane p nonzero point =
    let d = lacking plane p in
    let l = whole_length plane.n in
    let all : d * 1 ≤ d * l = mul-le-mul (omega arith) (some_length plane.n nonzero) in
    let reach : (plane.c *ℤ p.q -ℤ (plane.n.x *ℤ p.x +ℤ plane.n.y *ℤ p.y)) ≤ℤ pos d = omega (arith, ints) in
    let more : pos d ≤ℤ pos (d * l) = omega (arith, ints) in
    let one : pos 1 ≤ℤ p.q = omega (arith, ints) in
    let some : pos 0 ≤ℤ pos (d * l) = omega (arith, ints) in
    shown (plane.n.x ∷ plane.n.y ∷ plane.c ∷ p.x ∷ p.y ∷ p.q ∷ pos d ∷ pos (d * l) ∷ [])
    (sum_nonneg _ _ (gap_nonneg _ _ reach) (sum_nonneg _ _ (gap_nonneg _ _ more) (product_nonneg (pos (d * l)) (p.q -ℤ pos 1) some (gap_nonneg _ _ one))))
    (search quotes depth 40 fits 20000) tt

-- ---- all of them

-- the point is in each of them, once they are relieved
abbrev IsInRelieved : List Plane → ℕ → Rational → Type 0
IsInRelieved planes d p = All (λ plane. IsIn (relieved_of plane d) p) planes

in_relieved_more : (planes : List Plane) (d e : ℕ) (p : Rational) → d ≤ e → IsPoint p → IsInRelieved planes d p → IsInRelieved planes e p
in_relieved_more planes d e p more point all =
    All-weaker (λ plane. IsIn (relieved_of plane d) p) (λ plane. IsIn (relieved_of plane e) p) (λ plane inside. relieved_more plane d e p more point inside) planes all

some_enough : (planes : List Plane) (p : Rational) → All (λ plane. pos 0 <ℤ square plane.n) planes → IsPoint p → (d : ℕ) × IsInRelieved planes d p
some_enough [] p nonzero point = (0, All-nil (λ plane. IsIn (relieved_of plane 0) p))
some_enough (plane ∷ rest) p nonzero point =
    let (d, inside) = some_enough rest p (All-tail (λ plane. pos 0 <ℤ square plane.n) plane rest nonzero) point in
    let here = enough_of plane p (All-head (λ plane. pos 0 <ℤ square plane.n) plane rest nonzero) point in
    let e : ℕ = lacking plane p + d in (
      e,
      All-cons (λ plane. IsIn (relieved_of plane e) p) plane rest (relieved_more plane (lacking plane p) e p (omega arith) point here)
          (in_relieved_more rest d e p (omega arith) point inside),
    )

-- ---- beside the hard ones

module _ (hard soft : List Plane) (pref : V2) where
  abbrev pub relieved : ℕ → List Plane
  relieved d = hard ++ map (λ plane. relieved_of plane d) soft

  met : (d : ℕ) (p : Rational) → Meeting hard p → IsInRelieved soft d p → Meeting (relieved d) p
  met d p meets inside = record {
    point = meets.point;
    inside = All-append (λ plane. IsIn plane p) hard (map (λ plane. relieved_of plane d) soft) meets.inside
        (All-map (λ plane. IsIn plane p) (λ plane. relieved_of plane d) soft inside);
  }

  -- at this relief some point is the nearest
  abbrev pub HasNearest : ℕ → Type 0
  HasNearest d = (p : Rational) × Nearest (relieved d) pref p

  pub least_relief : (p : Rational) → Meeting hard p → All (λ plane. pos 0 <ℤ square plane.n) soft
      → (d : ℕ) × ((k : ℕ) → k < d → IsEmpty (relieved k)) × HasNearest d
  least_relief p meets nonzero =
      let (most, inside) = some_enough soft p nonzero meets.point in
      let (d, below, least, nearest) = first_by (λ d. IsEmpty (relieved d)) HasNearest (λ d. nearest_or_none (relieved d) pref) most (λ empty. empty p (met most p meets inside)) in
      (d, least, nearest)
