-- One more half-plane: the new best point, or none.
use Rattle.std.proofs.Common.{◌≡◌, [], ◌∷◌, ◌↔◌, arith, ℤ, pos, ◌+ℤ◌, ◌-ℤ◌, ◌*ℤ◌, ◌≤ℤ◌, ◌<ℤ◌}
use Rattle.std.proofs.lemmas.Int.{ints, by_lt_z}
use Rattle.exact_algebra.proofs.Ring.{quotes, equal, shown}
use Rattle.exact_algebra.proofs.Order.{product_nonneg, sum_nonneg, gap_nonneg, cancel}
use Rattle.exact_algebra.proofs.Sizes.{product_positive}
use Rattle.fixed_vec.specs.declared.vector.V2.{V2}
use Rattle.fixed_vec.specs.HalfPlane.{Plane}
use Rattle.fixed_vec.specs.Point.{Rational, IsPoint, IsIn, whole}
use Rattle.planar_line.specs.Border.{IsOnBorder, toward}
use Rattle.planar_line.proofs.Toward.{weak, turned}
use Rattle.planar_line.proofs.Border.{height, in-border}
use Rattle.planar_program.specs.Taken.{IsBest}

-- a point between v and o
abbrev pub between : ℤ → ℤ → Rational → Rational → Rational
between α β v o = record { x = β *ℤ v.x +ℤ α *ℤ o.x; y = β *ℤ v.y +ℤ α *ℤ o.y; q = β *ℤ v.q +ℤ α *ℤ o.q }

pub between-point : (α β : ℤ) (v o : Rational) → pos 0 ≤ℤ α → pos 0 <ℤ β → IsPoint v → IsPoint o → IsPoint (between α β v o)
between-point α β v o hα hβ hv ho =
    let first = product_positive β v.q hβ hv in
    let second = product_nonneg α o.q hα (weak o.q ho) in
    omega (arith, ints)

pub between-in : (g : Plane) (α β : ℤ) (v o : Rational) → pos 0 ≤ℤ α → pos 0 <ℤ β → IsIn g v → IsIn g o → IsIn g (between α β v o)
between-in g α β v o hα hβ iv io =
    shown (g.n.x ∷ g.n.y ∷ g.c ∷ α ∷ β ∷ v.x ∷ v.y ∷ v.q ∷ o.x ∷ o.y ∷ o.q ∷ [])
    (sum_nonneg _ _ (product_nonneg β (height g v) (weak β hβ) (gap_nonneg _ _ iv)) (product_nonneg α (height g o) hα (gap_nonneg _ _ io)))
    (search quotes depth 40 fits 20000) tt

-- where the way from v to o crosses the border of h
between-border : (h : Plane) (v o : Rational) → let w = between (height h v) (pos 0 -ℤ height h o) v o in h.c *ℤ w.q ≡ h.n.x *ℤ w.x +ℤ h.n.y *ℤ w.y
between-border h v o = equal (h.n.x ∷ h.n.y ∷ h.c ∷ v.x ∷ v.y ∷ v.q ∷ o.x ∷ o.y ∷ o.q ∷ []) (search quotes depth 40 fits 20000) tt

-- where pref lies neither on the side of a point between v and o nor away from o, it does not lie on the side of v
between-toward : (pref : V2) (n : Rational) (α β : ℤ) (v o : Rational) → pos 0 ≤ℤ α → pos 0 <ℤ β → pos 0 ≤ℤ toward pref n o → toward pref n (between α β v o) ≤ℤ pos 0 → toward pref n v ≤ℤ pos 0
between-toward pref n α β v o hα hβ back new = cancel (toward pref n v) (pos 0) β hβ
    (shown (pref.x ∷ pref.y ∷ n.x ∷ n.y ∷ n.q ∷ α ∷ β ∷ v.x ∷ v.y ∷ v.q ∷ o.x ∷ o.y ∷ o.q ∷ [])
    (sum_nonneg _ _ (gap_nonneg _ _ new) (product_nonneg α (toward pref n o) hα back))
    (search quotes depth 40 fits 20000) tt)

-- ---- sets of points that half-planes have in common
-- each point between two of them is one of them
pub record IsConvex (A : Rational → Type 0) : Type 0 where
  pub point : (p : Rational) → A p → IsPoint p
  pub between : (α β : ℤ) (v o : Rational) → pos 0 ≤ℤ α → pos 0 <ℤ β → A v → A o → A (between α β v o)

-- what is best of a set is best of any set with the same points
pub same_best : (A B : Rational → Type 0) (pref : V2) (p : Rational) → ((v : Rational) → A v ↔ B v) → IsBest A pref p → IsBest B pref p
same_best A B pref p same best = record { inside = (same p).0 best.inside; toward = λ v b. best.toward v ((same v).1 b) }

-- B has the points of A that are in h
module _ (A B : Rational → Type 0) (h : Plane) (part : (p : Rational) → B p ↔ (A p × IsIn h p)) where
  pub kept : (pref : V2) (o : Rational) → IsBest A pref o → IsIn h o → IsBest B pref o
  kept pref o best inside = record { inside = (part o).1 (best.inside, inside); toward = λ v b. best.toward v ((part v).0 b).0 }

  module _ (convex : IsConvex A) (o : Rational) (start : A o) (out : IsIn h o → ⊥) where
    low : pos 0 <ℤ (pos 0 -ℤ height h o)
    low = by_lt_z (h.n.x *ℤ o.x +ℤ h.n.y *ℤ o.y) (h.c *ℤ o.q) (λ less. omega (arith, ints)) (λ more. absurd (out more))

    high : (v : Rational) → IsIn h v → pos 0 ≤ℤ height h v
    high v inside = omega (arith, ints)

    -- the way from a point of B to o crosses the border within A
    way : Rational → Rational
    way v = between (height h v) (pos 0 -ℤ height h o) v o

    way-in : (v : Rational) → B v → A (way v)
    unfolding way
    way-in v b = let a = (part v).0 b in convex.between (height h v) (pos 0 -ℤ height h o) v o (high v a.1) low a.0 start

    way-on : (v : Rational) → B v → IsOnBorder h (way v)
    unfolding way
    way-on v b = record { point = convex.point (way v) (way-in v b); border = between-border h v o }

    pub emptied : ((v : Rational) → IsOnBorder h v → A v → ⊥) → (v : Rational) → B v → ⊥
    emptied none v b = none (way v) (way-on v b) (way-in v b)

    pub moved : (pref : V2) (m : Rational) → ((v : Rational) → A v → toward pref o v ≤ℤ pos 0) → IsOnBorder h m → A m → ((v : Rational) → IsOnBorder h v → A v → toward pref m v ≤ℤ pos 0) → IsBest B pref m
    unfolding way
    moved pref m old on inside new = record {
      inside = (part m).1 (inside, in-border h m on);
      toward = λ v b. let a = (part v).0 b in
          between-toward pref m (height h v) (pos 0 -ℤ height h o) v o (high v a.1) low (turned pref m o (convex.point m inside) (convex.point o start) (old m inside)) (new (way v) (way-on v b) (way-in v b));
    }

-- nothing lies on the side of pref from pref itself
pub start-toward : (pref : V2) (v : Rational) → toward pref (whole pref) v ≤ℤ pos 0
start-toward pref v =
    let still : toward pref (whole pref) v ≡ pos 0 = equal (pref.x ∷ pref.y ∷ v.x ∷ v.y ∷ v.q ∷ []) (search quotes depth 40 fits 9000) tt in
    omega (arith, ints)
