-- Half-planes have no common point, or one that is nearest to a whole point: with no bound on their numbers, and zero normals too.
use Rattle.std.proofs.Common.{◌≡◌, ◌⊎◌, inl, inr, ◌↔◌, List, [], ◌∷◌, Option, Some, None, refl, arith, pos, ◌+ℤ◌, ◌-ℤ◌, ◌*ℤ◌, ◌≤ℤ◌, ◌<ℤ◌}
use Rattle.std.specs.Option.{ForSome, IsSomeAnd}
use Rattle.std.proofs.lemmas.Int.{ints, by_lt_z}
use Rattle.std.proofs.lemmas.List.Elements.{All-nil, All-cons, All-head, All-tail}
use Rattle.exact_algebra.proofs.Ring.{quotes, shown}
use Rattle.exact_algebra.proofs.Order.{square_nonneg, product_nonneg, sum_nonneg, gap_nonneg, le_total, cancel}
use Rattle.fixed_vec.specs.declared.vector.V2.{V2}
use Rattle.fixed_vec.specs.Vector.{cross, square, zero_vector}
use Rattle.fixed_vec.specs.HalfPlane.{Plane}
use Rattle.fixed_vec.specs.Point.{Rational, IsPoint, IsIn, whole}
use Rattle.fixed_vec.specs.Meeting.{Meeting, IsEmpty, Nearest}
use Rattle.planar_line.specs.Border.{IsOnBorder, lead_of, foot_of}
use Rattle.planar_line.specs.Span.{Stretch, IsStretch, IsOnStretch, IsPart}
use Rattle.planar_line.proofs.Toward.{weak, no_farther}
use Rattle.planar_line.proofs.Border.{height, zero_nonneg}
use Rattle.planar_line.proofs.Stretch.{some_by, none_by, raised, raised-same, raised-none, raised-stretch, raised-exact, lowered, lowered-same, lowered-none, lowered-stretch, lowered-exact, level-same, level-none, low-best, high-best, foot-best}
use Rattle.planar_program.specs.Taken.{IsBest}
use Rattle.planar_program.proofs.Steps.{kept, moved, emptied, start-toward}
use Rattle.planar_program.proofs.Places.{convex-meeting}
use Rattle.planar_program.proofs.OneValue.{square_zero}

-- no point of A, or its best one for pref
abbrev NoneOrBest : (Rational → Type 0) → V2 → Type 0
NoneOrBest A pref = ((p : Rational) → A p → ⊥) ⊎ ((p : Rational) × IsBest A pref p)

-- ---- a point is in a half-plane or not
in_or_out : (g : Plane) (p : Rational) → IsIn g p ⊎ (IsIn g p → ⊥)
in_or_out g p = by_lt_z (g.n.x *ℤ p.x +ℤ g.n.y *ℤ p.y) (g.c *ℤ p.q) (λ less. inr (λ inside. omega (arith, ints))) (λ more. inl more)

-- each end that there is lies in it, or not
spared_or_not : (o : Option Rational) (g : Plane) → ForSome o (IsIn g) ⊎ (ForSome o (IsIn g) → ⊥)
spared_or_not None g = inl (none_by None (IsIn g) refl)
spared_or_not (Some p) g = elim (in_or_out g p) [
  | inl inside ↦ inl (some_by (Some p) (IsIn g) p refl inside)
  | inr out ↦ inr (λ all. out (all p refl))
]

-- an end is there and lies in it, or not
covered_or_not : (o : Option Rational) (g : Plane) → IsSomeAnd o (IsIn g) ⊎ (IsSomeAnd o (IsIn g) → ⊥)
covered_or_not None g = inr (λ h. absurd h)
covered_or_not (Some p) g = in_or_out g p

-- ---- the part of a stretch in half-planes
-- a stretch with the points of s of which P holds
record PartOf (s : Stretch) (P : Rational → Type 0) : Type 0 where
  stretch : Stretch
  ok : IsStretch stretch
  exact : IsPart stretch s P

-- P holds of no point of s, or of those of a stretch
abbrev NoneOrPart : Stretch → (Rational → Type 0) → Type 0
NoneOrPart s P = ((p : Rational) → IsOnStretch s p → P p → ⊥) ⊎ PartOf s P

-- where P holds of each point, the part is s
all_of : (s : Stretch) (P : Rational → Type 0) → IsStretch s → ((p : Rational) → IsOnStretch s p → P p) → PartOf s P
all_of s P ok all = record { stretch = s; ok = ok; exact = λ p. (λ w. (w, all p w), λ b. b.0) }

module _ (s : Stretch) (g : Plane) (ok : IsStretch s) where
  raised_part : pos 0 <ℤ cross s.border.n g.n → ForSome s.high (IsIn g) → PartOf s (IsIn g)
  raised_part rises spared = elim (covered_or_not s.low g) [
    | inl covered ↦ all_of s (IsIn g) ok (raised-same s g ok rises covered)
    | inr out ↦ record { stretch = raised s g; ok = raised-stretch s g ok rises spared; exact = raised-exact s g ok rises out }
  ]

  lowered_part : cross s.border.n g.n <ℤ pos 0 → ForSome s.low (IsIn g) → PartOf s (IsIn g)
  lowered_part falls spared = elim (covered_or_not s.high g) [
    | inl covered ↦ all_of s (IsIn g) ok (lowered-same s g ok falls covered)
    | inr out ↦ record { stretch = lowered s g; ok = lowered-stretch s g ok falls spared; exact = lowered-exact s g ok falls out }
  ]

  raised_or_none : pos 0 <ℤ cross s.border.n g.n → NoneOrPart s (IsIn g)
  raised_or_none rises = elim (spared_or_not s.high g) [
    | inl spared ↦ inr (raised_part rises spared)
    | inr out ↦ inl (raised-none s g ok rises out)
  ]

  lowered_or_none : cross s.border.n g.n <ℤ pos 0 → NoneOrPart s (IsIn g)
  lowered_or_none falls = elim (spared_or_not s.low g) [
    | inl spared ↦ inr (lowered_part falls spared)
    | inr out ↦ inl (lowered-none s g ok falls out)
  ]

  level_or_none : cross s.border.n g.n ≡ pos 0 → NoneOrPart s (IsIn g)
  level_or_none level = elim (in_or_out g (foot_of s.border zero_vector)) [
    | inl inside ↦ inr (all_of s (IsIn g) ok (level-same s g ok level inside))
    | inr out ↦ inl (level-none s g ok level out)
  ]

  cut_or_none : NoneOrPart s (IsIn g)
  cut_or_none =
      let slope = cross s.border.n g.n in
      by_lt_z (pos 0) slope raised_or_none (λ low. by_lt_z slope (pos 0) lowered_or_none (λ high. level_or_none (omega (arith, ints))))

-- every point is a common one of no half-planes
meeting-nil : (p : Rational) → IsPoint p → Meeting [] p
meeting-nil p point = record { point = point; inside = All-nil (λ plane. IsIn plane p) }

-- a common point of one more half-plane
meeting-cons : (g : Plane) (rest : List Plane) (p : Rational) → Meeting (g ∷ rest) p ↔ (Meeting rest p × IsIn g p)
meeting-cons g rest p = (
  λ m. (record { point = m.point; inside = All-tail (λ plane. IsIn plane p) g rest m.inside }, All-head (λ plane. IsIn plane p) g rest m.inside),
  λ b. record { point = b.0.point; inside = All-cons (λ plane. IsIn plane p) g rest b.1 b.0.inside },
)

-- the part in the other half-planes of the part in the first
part_of_part : (s : Stretch) (g : Plane) (rest : List Plane) (cut : PartOf s (IsIn g)) → PartOf cut.stretch (Meeting rest) → PartOf s (Meeting (g ∷ rest))
part_of_part s g rest cut part = record {
  stretch = part.stretch;
  ok = part.ok;
  exact = λ p. (
    λ w. let b = (part.exact p).0 w in let c = (cut.exact p).0 b.0 in (c.0, (meeting-cons g rest p).1 (b.1, c.1)),
    λ b. let m = (meeting-cons g rest p).0 b.1 in (part.exact p).1 ((cut.exact p).1 (b.0, m.1), m.0),
  );
}

part_or_none : (planes : List Plane) (s : Stretch) → IsStretch s → NoneOrPart s (Meeting planes)
part_or_none [] s ok = inr (all_of s (Meeting []) ok (λ p w. meeting-nil p w.on.point))
part_or_none (g ∷ rest) s ok = elim (cut_or_none s g ok) [
  | inl none ↦ inl (λ p w m. none p w ((meeting-cons g rest p).0 m).1)
  | inr cut ↦
      elim (part_or_none rest cut.stretch cut.ok) [
        | inl none ↦ inl (λ p w m. let b = (meeting-cons g rest p).0 m in none p ((cut.exact p).1 (w, b.1)) b.0)
        | inr part ↦ inr (part_of_part s g rest cut part)
      ]
]

-- ---- the best point of a border
-- an end is there and P holds of it, or Q holds of each end that there is
end_or : (o : Option Rational) (P Q : Rational → Type 0) → ((p : Rational) → P p ⊎ Q p) → ((p : Rational) × ((o ≡ Some p) × P p)) ⊎ ForSome o Q
end_or None P Q either = inr (none_by None Q refl)
end_or (Some p) P Q either = elim (either p) [
  | inl first ↦ inl (p, (refl, first))
  | inr second ↦ inr (some_by (Some p) Q p refl second)
]

-- each stretch has a best point: the low end, the high end or the foot
best_within : (s : Stretch) (pref : V2) → IsStretch s → (p : Rational) × IsBest (IsOnStretch s) pref p
best_within s pref ok =
    let lead = λ (p : Rational). lead_of s.border p pref in
    elim (end_or s.low (λ p. lead p ≤ℤ pos 0) (λ p. pos 0 ≤ℤ lead p) (λ p. le_total (lead p) (pos 0))) [
      | inl low ↦ let best = low-best s pref ok low.0 low.1.0 low.1.1 in (low.0, record { inside = best.within; toward = best.toward })
      | inr beyond ↦
          elim (end_or s.high (λ p. pos 0 ≤ℤ lead p) (λ p. lead p ≤ℤ pos 0) (λ p. le_total (pos 0) (lead p))) [
            | inl high ↦ let best = high-best s pref ok high.0 high.1.0 high.1.1 in (high.0, record { inside = best.within; toward = best.toward })
            | inr behind ↦ let best = foot-best s pref ok beyond behind in (foot_of s.border pref, record { inside = best.within; toward = best.toward })
          ]
    ]

-- p is on the border of the half-plane, and in each of a list
record IsMetOn (h : Plane) (planes : List Plane) (p : Rational) : Type 0 where
  on : IsOnBorder h p
  meets : Meeting planes p

-- the border as a stretch with no ends
abbrev endless : Plane → Stretch
endless h = record { border = h; low = None; high = None }

endless-stretch : (h : Plane) → pos 0 <ℤ square h.n → IsStretch (endless h)
endless-stretch h nonzero = record { nonzero = nonzero; low = none_by None _ refl; high = none_by None _ refl; ordered = none_by None _ refl }

endless-within : (h : Plane) (p : Rational) → IsOnBorder h p → IsOnStretch (endless h) p
endless-within h p on = record { on = on; after = none_by None _ refl; before = none_by None _ refl }

best_on_border : (h : Plane) (planes : List Plane) (pref : V2) → pos 0 <ℤ square h.n → NoneOrBest (IsMetOn h planes) pref
best_on_border h planes pref nonzero = elim (part_or_none planes (endless h) (endless-stretch h nonzero)) [
  | inl none ↦ inl (λ p m. none p (endless-within h p m.on) m.meets)
  | inr part ↦
      let best = best_within part.stretch pref part.ok in
      let b = (part.exact best.0).0 best.1.inside in
      let new : IsBest (IsMetOn h planes) pref best.0 = record {
        inside = record { on = b.0.on; meets = b.1 };
        toward = λ v m. best.1.toward v ((part.exact v).1 (endless-within h v m.on, m.meets));
      } in
      inr (best.0, new)
]

-- ---- one more half-plane
-- one whose normal is zero has all points or none
flat_in : (g : Plane) (p o : Rational) → square g.n ≤ℤ pos 0 → IsPoint p → IsPoint o → IsIn g p → IsIn g o
flat_in g p o flat hp ho inside =
    let xx = square_nonneg g.n.x in
    let yy = square_nonneg g.n.y in
    let zero_x = zero_nonneg g.n.x (o.x *ℤ p.q -ℤ p.x *ℤ o.q) (square_zero g.n.x (omega (arith, ints))) in
    let zero_y = zero_nonneg g.n.y (o.y *ℤ p.q -ℤ p.y *ℤ o.q) (square_zero g.n.y (omega (arith, ints))) in
    cancel (g.c *ℤ o.q) (g.n.x *ℤ o.x +ℤ g.n.y *ℤ o.y) p.q hp
    (shown (g.n.x ∷ g.n.y ∷ g.c ∷ p.x ∷ p.y ∷ p.q ∷ o.x ∷ o.y ∷ o.q ∷ [])
    (sum_nonneg _ _ (product_nonneg (height g p) o.q (gap_nonneg _ _ inside) (weak o.q ho)) (sum_nonneg _ _ zero_x zero_y))
    (search quotes depth 40 fits 20000) tt)

module _ (g : Plane) (rest : List Plane) (pref : V2) (o : Rational) (best : IsBest (Meeting rest) pref o) where
  next_flat : (IsIn g o → ⊥) → square g.n ≤ℤ pos 0 → IsEmpty (g ∷ rest)
  next_flat out flat = λ p m. out (flat_in g p o flat m.point best.inside.point ((meeting-cons g rest p).0 m).1)

  next_outside : (IsIn g o → ⊥) → pos 0 <ℤ square g.n → NoneOrBest (Meeting (g ∷ rest)) pref
  next_outside out nonzero =
      let old = Meeting rest in
      let all = Meeting (g ∷ rest) in
      elim (best_on_border g rest pref nonzero) [
        | inl none ↦ inl (emptied old all g (meeting-cons g rest) (convex-meeting rest) o best.inside out (λ v on m. none v (record { on = on; meets = m })))
        | inr new ↦
            let m = new.1 in
            inr (new.0, moved old all g (meeting-cons g rest) (convex-meeting rest) o best.inside out pref new.0 best.toward m.inside.on m.inside.meets (λ v on meets. m.toward v (record { on = on; meets = meets })))
      ]

  next_best : NoneOrBest (Meeting (g ∷ rest)) pref
  next_best = elim (in_or_out g o) [
    | inl inside ↦ inr (o, kept (Meeting rest) (Meeting (g ∷ rest)) g (meeting-cons g rest) pref o best inside)
    | inr out ↦ by_lt_z (pos 0) (square g.n) (next_outside out) (λ flat. inl (next_flat out flat))
  ]

best_or_none : (planes : List Plane) (pref : V2) → NoneOrBest (Meeting planes) pref
best_or_none [] pref = inr (whole pref, record { inside = meeting-nil (whole pref) (omega (arith, ints)); toward = λ v m. start-toward pref v })
best_or_none (g ∷ rest) pref = elim (best_or_none rest pref) [
  | inl none ↦ inl (λ p m. none p ((meeting-cons g rest p).0 m).0)
  | inr best ↦ next_best g rest pref best.0 best.1
]

-- half-planes have no common point, or one that is nearest to a whole point
pub nearest_or_none : (planes : List Plane) (pref : V2) → IsEmpty planes ⊎ ((p : Rational) × Nearest planes pref p)
nearest_or_none planes pref = elim (best_or_none planes pref) [
  | inl none ↦ inl none
  | inr best ↦ inr (best.0, record { meets = best.1.inside; no_farther = λ v m. no_farther pref best.0 v m.point (best.1.toward v m) })
]
