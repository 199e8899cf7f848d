-- The points of a border that the half-planes before it admit.
use Rattle.std.proofs.Common.{◌≡◌, ℕ, ◌-◌, List, get_or, take, subst, sym, arith, ◌↔◌}
use Rattle.std.specs.List.{slice_range}
use Rattle.fixed_vec.specs.HalfPlane.{Plane}
use Rattle.fixed_vec.specs.Point.{Rational}
use Rattle.fixed_vec.specs.Meeting.{Meeting}
use Rattle.planar_line.specs.Border.{IsOnBorder}
use Rattle.planar_line.specs.Relief.{no_plane}
use Rattle.planar_line.specs.Line.{IsAdmitted}

module _ (planes : List Plane) (line : ℕ) (W : Rational → Type 0) (whole : (p : Rational) → W p ↔ IsOnBorder (get_or planes line no_plane) p) where
  front : slice_range planes 0 line ≡ take line planes
  front = let same : line - 0 ≡ line = omega arith in λ i. take (same i) planes

  pub admitted : (S : Rational → Type 0) → ((p : Rational) → S p ↔ (W p × Meeting (slice_range planes 0 line) p)) → (p : Rational) → S p ↔ IsAdmitted planes line p
  admitted S exact p = (
    λ s. let b = (exact p).0 s in record { on = (whole p).0 b.0; earlier = subst (λ xs. Meeting xs p) front b.1 },
    λ a. (exact p).1 ((whole p).1 a.on, subst (λ xs. Meeting xs p) (sym front) a.earlier),
  )

  pub admitted_none : ((p : Rational) → W p → Meeting (slice_range planes 0 line) p → ⊥) → (p : Rational) → IsAdmitted planes line p → ⊥
  admitted_none none p a = none p ((whole p).1 a.on) (subst (λ xs. Meeting xs p) (sym front) a.earlier)
