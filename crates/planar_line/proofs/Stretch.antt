-- A stretch of a border, cut by a half-plane, and its point nearest to a whole point.
use Rattle.std.proofs.Common.{◌≡◌, [], ◌∷◌, Option, Some, None, ◌↔◌, ⊎_elim, subst, sym, refl, arith, pos, ◌-ℤ◌, ◌*ℤ◌, ◌≤ℤ◌, ◌<ℤ◌}
use Rattle.std.proofs.lemmas.Int.{ints}
use Rattle.std.specs.Option.{ForSome, IsSomeAnd}
use Rattle.exact_algebra.proofs.Ring.{quotes, equal}
use Rattle.exact_algebra.proofs.Order.{le_total}
use Rattle.fixed_vec.specs.declared.vector.V2.{V2}
use Rattle.fixed_vec.specs.Vector.{cross, zero_vector}
use Rattle.fixed_vec.specs.HalfPlane.{Plane}
use Rattle.fixed_vec.specs.Point.{Rational, IsIn}
use Rattle.planar_line.specs.Border.{IsOnBorder, IsBefore, along, lead_of, toward, foot_of, crossing_of}
use Rattle.planar_line.specs.Span.{Stretch, IsStretch, IsOnStretch}
use Rattle.planar_line.proofs.Border.{in-border, carries_up, carries_down, carries_level, ahead_up, ahead_down, crossing-first, crossing-second, foot-border, turns_low, turns_high, turns_foot, foot_after, foot_before}

-- the end is there, and P holds of it
some_and : (o : Option Rational) (P : Rational → Type 0) (p : Rational) → o ≡ Some p → P p → IsSomeAnd o P
some_and o P p e h = subst (λ (x : Option Rational). IsSomeAnd x P) (sym e) h

-- P holds of the one end there is, or of none
pub some_by : (o : Option Rational) (P : Rational → Type 0) (p : Rational) → o ≡ Some p → P p → ForSome o P
some_by o P p e h = λ x f. let same : p ≡ x = cc in subst P same h

pub none_by : (o : Option Rational) (P : Rational → Type 0) → o ≡ None → ForSome o P
none_by o P e = λ x f. absurd (let no : ⊥ = cc in no)

end_by : (P : Rational → Type 0) (p : Rational) → P p → ForSome (Some p) P
end_by P p h = some_by (Some p) P p refl h

-- the stretch with the border of g for its low end, or for its high one
abbrev pub raised : Stretch → Plane → Stretch
raised s g = record { border = s.border; low = Some (crossing_of s.border g); high = s.high }

abbrev pub lowered : Stretch → Plane → Stretch
lowered s g = record { border = s.border; low = s.low; high = Some (crossing_of g s.border) }

-- ---- a half-plane that bounds the stretch from below: it spares it, leaves nothing of it, or gives a new low end
module _ (s : Stretch) (g : Plane) (ok : IsStretch s) (rises : pos 0 <ℤ cross s.border.n g.n) where
  pub raised-same : IsSomeAnd s.low (IsIn g) → (p : Rational) → IsOnStretch s p → IsIn g p
  raised-same = by s.low refl
    where
      by : (low : Option Rational) → s.low ≡ low → IsSomeAnd low (IsIn g) → (p : Rational) → IsOnStretch s p → IsIn g p
      by None e h p w = absurd h
      by (Some low) e h p w = carries_up s.border g low p ok.nonzero (ok.low low e) w.on rises (w.after low e) h

  pub raised-none : (ForSome s.high (IsIn g) → ⊥) → (p : Rational) → IsOnStretch s p → IsIn g p → ⊥
  raised-none out p w inside = out (λ high e. carries_up s.border g p high ok.nonzero w.on (ok.high high e) rises (w.before high e) inside)

  pub raised-stretch : ForSome s.high (IsIn g) → IsStretch (raised s g)
  raised-stretch kept =
      let on = crossing-first s.border g rises in
      record {
        nonzero = ok.nonzero;
        low = end_by (IsOnBorder s.border) (crossing_of s.border g) on;
        high = ok.high;
        ordered = end_by (λ low. ForSome s.high (λ high. IsBefore s.border low high)) (crossing_of s.border g)
            (λ high e. ahead_up s.border g (crossing_of s.border g) high ok.nonzero on (ok.high high e) rises (crossing-second s.border g rises) (kept high e));
      }

  pub raised-exact : (IsSomeAnd s.low (IsIn g) → ⊥) → (p : Rational) → IsOnStretch (raised s g) p ↔ (IsOnStretch s p × IsIn g p)
  raised-exact out p =
      let x = crossing_of s.border g in
      let on = crossing-first s.border g rises in
      let gx = crossing-second s.border g rises in (
        λ w.
            let inside = carries_up s.border g x p ok.nonzero on w.on rises (w.after x refl) (in-border g x gx) in (
              record {
                on = w.on;
                after = λ low e. ⊎_elim (λ first. first) (λ later. absurd (out (some_and s.low (IsIn g) low e (carries_up s.border g p low ok.nonzero w.on (ok.low low e) rises later inside)))) (le_total (along s.border low *ℤ p.q) (along s.border p *ℤ low.q));
                before = w.before;
              },
              inside,
            ),
        λ b. record {
          on = b.0.on;
          after = end_by (λ low. IsBefore s.border low p) x (ahead_up s.border g x p ok.nonzero on b.0.on rises gx b.1);
          before = b.0.before;
        },
      )

-- the slope the other way round
pub turned : (h g : Plane) → cross h.n g.n <ℤ pos 0 → pos 0 <ℤ cross g.n h.n
turned h g falls =
    let back : cross g.n h.n ≡ pos 0 -ℤ cross h.n g.n = equal (h.n.x ∷ h.n.y ∷ g.n.x ∷ g.n.y ∷ []) (search quotes depth 30) tt in
    omega (arith, ints)

-- ---- a half-plane that bounds the stretch from above
module _ (s : Stretch) (g : Plane) (ok : IsStretch s) (falls : cross s.border.n g.n <ℤ pos 0) where
  rises : pos 0 <ℤ cross g.n s.border.n
  rises = turned s.border g falls

  pub lowered-same : IsSomeAnd s.high (IsIn g) → (p : Rational) → IsOnStretch s p → IsIn g p
  lowered-same = by s.high refl
    where
      by : (high : Option Rational) → s.high ≡ high → IsSomeAnd high (IsIn g) → (p : Rational) → IsOnStretch s p → IsIn g p
      by None e h p w = absurd h
      by (Some high) e h p w = carries_down s.border g high p ok.nonzero (ok.high high e) w.on falls (w.before high e) h

  pub lowered-none : (ForSome s.low (IsIn g) → ⊥) → (p : Rational) → IsOnStretch s p → IsIn g p → ⊥
  lowered-none out p w inside = out (λ low e. carries_down s.border g p low ok.nonzero w.on (ok.low low e) falls (w.after low e) inside)

  pub lowered-stretch : ForSome s.low (IsIn g) → IsStretch (lowered s g)
  lowered-stretch kept =
      let on = crossing-second g s.border rises in
      record {
        nonzero = ok.nonzero;
        low = ok.low;
        high = end_by (IsOnBorder s.border) (crossing_of g s.border) on;
        ordered = λ low e. end_by (λ high. IsBefore s.border low high) (crossing_of g s.border)
            (ahead_down s.border g (crossing_of g s.border) low ok.nonzero on (ok.low low e) falls (crossing-first g s.border rises) (kept low e));
      }

  pub lowered-exact : (IsSomeAnd s.high (IsIn g) → ⊥) → (p : Rational) → IsOnStretch (lowered s g) p ↔ (IsOnStretch s p × IsIn g p)
  lowered-exact out p =
      let x = crossing_of g s.border in
      let on = crossing-second g s.border rises in
      let gx = crossing-first g s.border rises in (
        λ w.
            let inside = carries_down s.border g x p ok.nonzero on w.on falls (w.before x refl) (in-border g x gx) in (
              record {
                on = w.on;
                after = w.after;
                before = λ high e. ⊎_elim (λ last. last) (λ sooner. absurd (out (some_and s.high (IsIn g) high e (carries_down s.border g p high ok.nonzero w.on (ok.high high e) falls sooner inside)))) (le_total (along s.border p *ℤ high.q) (along s.border high *ℤ p.q));
              },
              inside,
            ),
        λ b. record {
          on = b.0.on;
          after = b.0.after;
          before = end_by (λ high. IsBefore s.border p high) x (ahead_down s.border g x p ok.nonzero on b.0.on falls gx b.1);
        },
      )

-- ---- a half-plane whose border is parallel
module _ (s : Stretch) (g : Plane) (ok : IsStretch s) (level : cross s.border.n g.n ≡ pos 0) where
  pub level-same : IsIn g (foot_of s.border zero_vector) → (p : Rational) → IsOnStretch s p → IsIn g p
  level-same inside p w = carries_level s.border g (foot_of s.border zero_vector) p ok.nonzero (foot-border s.border zero_vector ok.nonzero) w.on level inside

  pub level-none : (IsIn g (foot_of s.border zero_vector) → ⊥) → (p : Rational) → IsOnStretch s p → IsIn g p → ⊥
  level-none out p w inside = out (carries_level s.border g p (foot_of s.border zero_vector) ok.nonzero w.on (foot-border s.border zero_vector ok.nonzero) level inside)

-- ---- the nearest point
-- p is a point of the stretch, and no point of it lies on the side of pref
pub record IsBest (s : Stretch) (pref : V2) (p : Rational) : Type 0 where
  pub within : IsOnStretch s p
  pub toward : (v : Rational) → IsOnStretch s v → toward pref p v ≤ℤ pos 0

-- the low end where pref does not lie beyond it, the high end where it does not lie before it, and else the foot
module _ (s : Stretch) (pref : V2) (ok : IsStretch s) where
  pub low-best : (p : Rational) → s.low ≡ Some p → lead_of s.border p pref ≤ℤ pos 0 → IsBest s pref p
  low-best p e behind = record {
    within = record {
      on = ok.low p e;
      after = λ low f. let same : p ≡ low = cc in subst (λ x. IsBefore s.border x p) same (let here : IsBefore s.border p p = omega (arith, ints) in here);
      before = ok.ordered p e;
    };
    toward = λ v w. turns_low s.border pref p v ok.nonzero (ok.low p e) w.on behind (w.after p e);
  }

  pub high-best : (p : Rational) → s.high ≡ Some p → pos 0 ≤ℤ lead_of s.border p pref → IsBest s pref p
  high-best p e beyond = record {
    within = record {
      on = ok.high p e;
      after = λ low f. ok.ordered low f p e;
      before = λ high f. let same : p ≡ high = cc in subst (λ x. IsBefore s.border p x) same (let here : IsBefore s.border p p = omega (arith, ints) in here);
    };
    toward = λ v w. turns_high s.border pref p v ok.nonzero (ok.high p e) w.on beyond (w.before p e);
  }

  pub foot-best : ForSome s.low (λ low. pos 0 ≤ℤ lead_of s.border low pref) → ForSome s.high (λ high. lead_of s.border high pref ≤ℤ pos 0) → IsBest s pref (foot_of s.border pref)
  foot-best beyond behind = record {
    within = record {
      on = foot-border s.border pref ok.nonzero;
      after = λ low e. foot_after s.border pref low ok.nonzero (beyond low e);
      before = λ high e. foot_before s.border pref high ok.nonzero (behind high e);
    };
    toward = λ v w. turns_foot s.border pref v ok.nonzero w.on;
  }
