-- The points that lie in each half-plane of a list from one place up to another.
use Rattle.std.proofs.Common.{◌≡◌, ℕ, ◌+◌, ◌-◌, ◌<◌, ◌≤◌, List, length, get_or, drop, ap, subst, sym, ◌∙◌, ⊎_elim, arith, ◌↔◌}
use Rattle.std.specs.List.{slice_range}
use Rattle.std.proofs.lemmas.List.{get_or-take, get_or-drop, get_or_default, length-take-le, length-drop}
use Rattle.std.proofs.lemmas.Bool.{cases_lt}
use Rattle.fixed_vec.specs.HalfPlane.{Plane}
use Rattle.fixed_vec.specs.Point.{Rational, IsPoint, IsIn}
use Rattle.fixed_vec.specs.Meeting.{Meeting}
use Rattle.planar_line.specs.Relief.{no_plane}

-- p is in each half-plane at the places from `from` up to `to`
pub record IsInRange (planes : List Plane) (from to : ℕ) (p : Rational) : Type 0 where
  pub at : (k : ℕ) → from ≤ k → k < to → IsIn (get_or planes k no_plane) p

module _ (planes : List Plane) where
  pub range_none : (from : ℕ) (p : Rational) → IsInRange planes from from p
  range_none from p = record { at = λ k l m. absurd (omega arith) }

  pub range_more : (from n : ℕ) (p : Rational) → IsInRange planes from n p → IsIn (get_or planes n no_plane) p → IsInRange planes from (n + 1) p
  range_more from n p below here = record {
    at = λ k l m. ⊎_elim (λ less. below.at k l less) (λ last. let same : n ≡ k = omega arith in subst (λ j. IsIn (get_or planes j no_plane) p) same here) (cases_lt k n);
  }

  pub range_fewer : (from m n : ℕ) (p : Rational) → m ≤ n → IsInRange planes from n p → IsInRange planes from m p
  range_fewer from m n p le all = record { at = λ k l h. all.at k l (omega arith) }

  -- A has the points of B that are in the half-planes of a range
  abbrev pub Narrows : (A B : Rational → Type 0) (from to : ℕ) → Type 0
  Narrows A B from to = (p : Rational) → A p ↔ (B p × IsInRange planes from to p)

  pub narrows_none : (A : Rational → Type 0) (from : ℕ) → Narrows A A from from
  narrows_none A from = λ p. (λ a. (a, range_none from p), λ b. b.0)

  pub narrows_more : (A B C : Rational → Type 0) (from n : ℕ) → from ≤ n → Narrows A B from n → ((p : Rational) → C p ↔ (A p × IsIn (get_or planes n no_plane) p)) → Narrows C B from (n + 1)
  narrows_more A B C from n le before here = λ p. (
    λ c. let a = (here p).0 c in let b = (before p).0 a.0 in (b.0, range_more from n p b.1 a.1),
    λ b. (here p).1 ((before p).1 (b.0, range_fewer from n (n + 1) p (omega arith) b.1), b.1.at n le (omega arith)),
  )

  pub narrows_spared : (A B : Rational → Type 0) (from n : ℕ) → from ≤ n → Narrows A B from n → ((p : Rational) → A p → IsIn (get_or planes n no_plane) p) → Narrows A B from (n + 1)
  narrows_spared A B from n le before spared = narrows_more A B A from n le before (λ p. (λ a. (a, spared p a), λ b. b.0))

  module _ (from to : ℕ) (order : from ≤ to) (end : to ≤ length planes) where
    length-range : length (slice_range planes from to) ≡ to - from
    length-range = let d = length-drop from planes in length-take-le (to - from) (drop from planes) (omega arith)

    get_or-range : (k : ℕ) (e : Plane) → k < to - from → get_or (slice_range planes from to) k e ≡ get_or planes (from + k) no_plane
    get_or-range k e l = get_or-take (to - from) (drop from planes) k e l ∙ get_or-drop from planes k e ∙ get_or_default planes (from + k) e no_plane (omega arith)

    pub range_meeting : (p : Rational) → IsPoint p → IsInRange planes from to p → Meeting (slice_range planes from to) p
    range_meeting p point all = record {
      point = point;
      inside = λ k e l.
          let n = length-range in
          subst (λ plane. IsIn plane p) (sym (get_or-range k e (omega arith))) (all.at (from + k) (omega arith) (omega arith));
    }

    pub meeting_range : (p : Rational) → Meeting (slice_range planes from to) p → IsInRange planes from to p
    meeting_range p meets = record {
      at = λ k l m.
          let n = length-range in
          let same : from + (k - from) ≡ k = omega arith in
          let read = get_or-range (k - from) no_plane (omega arith) ∙ ap (λ j. get_or planes j no_plane) same in
          subst (λ plane. IsIn plane p) read (meets.inside (k - from) no_plane (omega arith));
    }

    pub narrows_meeting : (A B : Rational → Type 0) (n : ℕ) → n ≡ to → ((p : Rational) → B p → IsPoint p) → Narrows A B from n → (p : Rational) → A p ↔ (B p × Meeting (slice_range planes from to) p)
    narrows_meeting A B n last points exact = λ p. (
      λ a. let b = (exact p).0 a in (b.0, range_meeting p (points p b.0) (range_fewer from to n p (omega arith) b.1)),
      λ b. (exact p).1 (b.0, range_fewer from n to p (omega arith) (meeting_range p b.1)),
    )
