-- The half-planes taken, place by place.
use Rattle.std.proofs.Common.{Result, Ok, Err, IsErr, IfErr, ℕ, ◌+◌, ◌<◌, ◌≤◌, List, length, get_or, subst, sym, ⊎_elim, arith, ◌≡◌, ◌↔◌}
use Rattle.std.specs.List.{slice_range}
use Rattle.std.proofs.lemmas.Int.{ints}
use Rattle.std.proofs.lemmas.List.{get_or_default}
use Rattle.std.proofs.lemmas.Bool.{cases_lt, false≢true}
use Rattle.fixed_vec.specs.declared.vector.V2.{V2}
use Rattle.fixed_vec.specs.HalfPlane.{Plane}
use Rattle.fixed_vec.specs.Point.{Rational, IsPoint, IsIn, whole}
use Rattle.fixed_vec.specs.Meeting.{IsEmpty, Meeting}
use Rattle.planar_line.specs.Relief.{no_plane}
use Rattle.planar_line.proofs.Ranges.{range_none, range_more, range_fewer, range_meeting, meeting_range}
use Rattle.planar_program.specs.Taken.{IsTaken, IsOnTaken, IsTakenWith, IsBest}
use Rattle.planar_program.proofs.Steps.{IsConvex, between-point, between-in, kept, moved, emptied, start-toward}

-- what holds where there is no point holds of an error
pub if_err : {T E : Type 0} (X : Type 0) (r : Result T E) → IsErr r → X → IfErr r (λ e. X)
if_err X (Ok x) e h = absurd (false≢true e)
if_err X (Err x) e h = h

pub convex-meeting : (planes : List Plane) → IsConvex (Meeting planes)
convex-meeting planes = record {
  point = λ p m. m.point;
  between = λ α β v o hα hβ mv mo. record {
    point = between-point α β v o hα hβ mv.point mo.point;
    inside = λ k e l. between-in (get_or planes k e) α β v o hα hβ (mv.inside k e l) (mo.inside k e l);
  };
}

pub convex-taken : (planes : List Plane) (hard head head_end soft_end hard_end : ℕ) → IsConvex (IsTaken planes hard head head_end soft_end hard_end)
convex-taken planes hard head head_end soft_end hard_end = record {
  point = λ p t. t.soft.point;
  between = λ α β v o hα hβ tv to. record {
    first = (convex-meeting (slice_range planes head head_end)).between α β v o hα hβ tv.first to.first;
    soft = (convex-meeting (slice_range planes hard soft_end)).between α β v o hα hβ tv.soft to.soft;
    firm = (convex-meeting (slice_range planes 0 hard_end)).between α β v o hα hβ tv.firm to.firm;
  };
}

module _ (planes : List Plane) where
  -- a range with one more place
  meeting_more : (from k : ℕ) (p : Rational) → from ≤ k → k < length planes → Meeting (slice_range planes from (k + 1)) p ↔ (Meeting (slice_range planes from k) p × IsIn (get_or planes k no_plane) p)
  meeting_more from k p start l = (
    λ m.
        let all = meeting_range planes from (k + 1) (omega arith) (omega arith) p m in
        (range_meeting planes from k start (omega arith) p m.point (range_fewer planes from k (k + 1) p (omega arith) all), all.at k start (omega arith)),
    λ b. range_meeting planes from (k + 1) (omega arith) (omega arith) p b.0.point (range_more planes from k p (meeting_range planes from k start (omega arith) p b.0) b.1),
  )

  meeting_none : (from : ℕ) (p : Rational) → from ≤ length planes → IsPoint p → Meeting (slice_range planes from from) p
  meeting_none from p le point = range_meeting planes from from (omega arith) le p point (range_none planes from p)

  module _ (hard head : ℕ) (le : hard ≤ length planes) (early : head ≤ length planes) where
    pub taken_none : (p : Rational) → IsPoint p → IsTaken planes hard head head hard 0 p
    taken_none p point = record { first = meeting_none head p early point; soft = meeting_none hard p le point; firm = meeting_none 0 p (omega arith) point }

    pub first_more : (k : ℕ) (p : Rational) → head ≤ k → k < length planes → IsTakenWith planes k hard head k hard 0 p ↔ IsTaken planes hard head (k + 1) hard 0 p
    first_more k p start l =
        let more = meeting_more head k p start l in (
          λ w. record { first = more.1 (w.taken.first, w.inside); soft = w.taken.soft; firm = w.taken.firm },
          λ t. let b = more.0 t.first in record { taken = record { first = b.0; soft = t.soft; firm = t.firm }; inside = b.1 },
        )

    pub soft_more : (head_end k : ℕ) (p : Rational) → hard ≤ k → k < length planes → IsTakenWith planes k hard head head_end k 0 p ↔ IsTaken planes hard head head_end (k + 1) 0 p
    soft_more head_end k p start l =
        let more = meeting_more hard k p start l in (
          λ w. record { first = w.taken.first; soft = more.1 (w.taken.soft, w.inside); firm = w.taken.firm },
          λ t. let b = more.0 t.soft in record { taken = record { first = t.first; soft = b.0; firm = t.firm }; inside = b.1 },
        )

    pub firm_more : (head_end soft_end k : ℕ) (p : Rational) → k < length planes → IsTakenWith planes k hard head head_end soft_end k p ↔ IsTaken planes hard head head_end soft_end (k + 1) p
    firm_more head_end soft_end k p l =
        let more = meeting_more 0 k p (omega arith) l in (
          λ w. record { first = w.taken.first; soft = w.taken.soft; firm = more.1 (w.taken.firm, w.inside) },
          λ t. let b = more.0 t.firm in record { taken = record { first = t.first; soft = t.soft; firm = b.0 }; inside = b.1 },
        )

    pub taken_meeting : (head_end soft_end hard_end : ℕ) (p : Rational) → soft_end ≡ length planes → hard_end ≡ hard → IsTaken planes hard head head_end soft_end hard_end p → Meeting planes p
    taken_meeting head_end soft_end hard_end p all_soft all_hard t =
        let soft = meeting_range planes hard soft_end (omega arith) (omega arith) p t.soft in
        let firm = meeting_range planes 0 hard_end (omega arith) (omega arith) p t.firm in
        record {
          point = t.soft.point;
          inside = λ k e l.
              subst (λ g. IsIn g p) (get_or_default planes k no_plane e l)
              (⊎_elim (λ a. firm.at k (omega arith) (omega arith)) (λ a. soft.at k a (omega arith)) (cases_lt k hard));
        }

    pub meeting_taken : (head_end soft_end hard_end : ℕ) (p : Rational) → head ≤ head_end → head_end ≤ length planes → hard ≤ soft_end → soft_end ≤ length planes → hard_end ≤ length planes → Meeting planes p → IsTaken planes hard head head_end soft_end hard_end p
    meeting_taken head_end soft_end hard_end p order within start end last m =
        let at : (k : ℕ) → k < length planes → IsIn (get_or planes k no_plane) p = λ k l. m.inside k no_plane l in
        record {
          first = range_meeting planes head head_end order within p m.point (record { at = λ k a l. at k (omega arith) });
          soft = range_meeting planes hard soft_end start end p m.point (record { at = λ k a l. at k (omega arith) });
          firm = range_meeting planes 0 hard_end (omega arith) last p m.point (record { at = λ k a l. at k (omega arith) });
        }

    -- where no point taken is in one more half-plane, the list has no common point
    pub none_meets : (place head_end soft_end hard_end : ℕ) → place < length planes → head ≤ head_end → head_end ≤ length planes → hard ≤ soft_end → soft_end ≤ length planes → hard_end ≤ length planes → ((v : Rational) → IsTakenWith planes place hard head head_end soft_end hard_end v → ⊥) → IsEmpty planes
    none_meets place head_end soft_end hard_end l order within start end last none p meets = none p (record {
      taken = meeting_taken head_end soft_end hard_end p order within start end last meets;
      inside = meets.inside place no_plane l;
    })

-- ---- one more half-plane, at a place
module _ (planes : List Plane) (place hard head head_end soft_end hard_end : ℕ) where
  abbrev plane : Plane
  plane = get_or planes place no_plane

  abbrev Before : Rational → Type 0
  Before = IsTaken planes hard head head_end soft_end hard_end

  abbrev After : Rational → Type 0
  After = IsTakenWith planes place hard head head_end soft_end hard_end

  part : (p : Rational) → After p ↔ (Before p × IsIn plane p)
  part p = (λ w. (w.taken, w.inside), λ b. record { taken = b.0; inside = b.1 })

  convex : IsConvex Before
  convex = convex-taken planes hard head head_end soft_end hard_end

  module _ (pref : V2) (o : Rational) (best : IsBest Before pref o) where
    pub step-kept : IsIn plane o → IsBest After pref o
    step-kept inside = kept Before After plane part pref o best inside

    pub step-moved : (IsIn plane o → ⊥) → (m : Rational) → IsBest (IsOnTaken planes place hard head head_end soft_end hard_end) pref m → IsBest After pref m
    step-moved out m new =
        moved Before After plane part convex o best.inside out pref m best.toward
        new.inside.on new.inside.taken (λ v on taken. new.toward v (record { on = on; taken = taken }))

    pub step-emptied : (IsIn plane o → ⊥) → ((v : Rational) → IsOnTaken planes place hard head head_end soft_end hard_end v → ⊥) → (v : Rational) → After v → ⊥
    step-emptied out none =
        emptied Before After plane part convex o best.inside out (λ v on taken. none v (record { on = on; taken = taken }))

-- with nothing taken, pref itself is best
pub best-start : (planes : List Plane) (hard head : ℕ) (pref : V2) (o : Rational) → hard ≤ length planes → head ≤ length planes → o ≡ whole pref → IsBest (IsTaken planes hard head head hard 0) pref o
best-start planes hard head pref o le early same =
    let point : IsPoint (whole pref) = omega (arith, ints) in
    subst (IsBest (IsTaken planes hard head head hard 0) pref) (sym same) (record { inside = taken_none planes hard head le early (whole pref) point; toward = λ v t. start-toward pref v })
