-- What is in all half-planes of a ring is no longer than the speed less one: round the ring, some sector faces it.
use Rattle.std.proofs.Common.{◌≡◌, ℕ, suc, ◌-◌, List, [], ◌∷◌, All, true, arith, ℤ, pos, ◌-ℤ◌, ◌*ℤ◌, ◌<ℤ◌, ◌≤ℤ◌, int_lt}
use Rattle.std.proofs.lemmas.Int.{ints, by_lt_z}
use Rattle.exact_algebra.proofs.Tests.{lt_true, eq_true, both_of}
use Rattle.fixed_vec.specs.declared.vector.V2.{V2}
use Rattle.fixed_vec.specs.Vector.{cross, square}
use Rattle.fixed_vec.specs.HalfPlane.{Plane}
use Rattle.fixed_vec.specs.Point.{IsIn, IsShort, Rational}
use Rattle.crowd_data.specs.RingPlanes.{edge_plane, edge_planes, ring_planes_of}
use Rattle.hard_plane.specs.Ring.{is_at, all_at, turns_left, is_round}
use Rattle.hard_plane.proofs.Sector.{edge_holds, sector_short, left_above, left_below}

-- positive where v lies to the left of p
abbrev turn : V2 → Rational → ℤ
turn p v = p.x *ℤ v.y -ℤ p.y *ℤ v.x

module _ (r : ℤ) (k : ℕ) (v : Rational) (hr : pos 0 <ℤ r) (hq : pos 0 <ℤ v.q) where
  abbrev InAll : List Plane → Type 0
  InAll planes = All (λ plane. IsIn plane v) planes

  in_sector : (p q : V2) → square p ≡ r *ℤ r → square q ≡ r *ℤ r → pos 0 <ℤ cross p q → IsIn (edge_plane r k p q) v → pos 0 ≤ℤ turn p v → turn q v ≤ℤ pos 0 → IsShort k v
  in_sector p q atp atq left inside hp hn =
      sector_short p.x p.y q.x q.y v.x v.y v.q r (pos k) hr (omega (arith, ints)) hq (omega (arith, ints)) (omega (arith, ints)) left
      (edge_holds p.x p.y q.x q.y v.x v.y v.q r (pos k) hr hq inside) hp hn

  -- v lies to the left of p and to the right of first: some edge from p on faces it
  rising : (first p : V2) (rest : List V2) → square first ≡ r *ℤ r → all_at r (p ∷ rest) ≡ true → turns_left first (p ∷ rest) ≡ true → InAll (edge_planes r k first (p ∷ rest))
      → turn first v ≤ℤ pos 0 → pos 0 ≤ℤ turn p v → IsShort k v
  rising first p [] atf at turns all hf hp =
      in_sector p first (eq_true (square p) (r *ℤ r) (both_of (is_at r p) (all_at r []) at).0) atf (lt_true (pos 0) (cross p first) turns) (all 0 (edge_plane r k p first) (omega arith)) hp hf
  rising first p (q ∷ rest) atf at turns all hf hp =
      let ats = both_of (is_at r p) (all_at r (q ∷ rest)) at in
      let atq = both_of (is_at r q) (all_at r rest) ats.1 in
      let ts = both_of (int_lt (pos 0) (cross p q)) (turns_left first (q ∷ rest)) turns in
      by_lt_z (pos 0) (turn q v)
      (λ h. rising first q rest atf ats.1 ts.1 (λ j d l. all (suc j) d (omega arith)) hf (omega (arith, ints)))
      (λ h. in_sector p q (eq_true (square p) (r *ℤ r) ats.0) (eq_true (square q) (r *ℤ r) atq.0) (lt_true (pos 0) (cross p q) ts.0) (all 0 (edge_plane r k p q) (omega arith)) hp h)

  -- v lies to the left of all points so far: that can't go on, since the last one has the first to its left
  leftmost : (first p : V2) (rest : List V2) → square first ≡ r *ℤ r → all_at r (p ∷ rest) ≡ true → turns_left first (p ∷ rest) ≡ true → InAll (edge_planes r k first (p ∷ rest))
      → pos 0 <ℤ turn first v → pos 0 <ℤ turn p v → pos 0 ≤ℤ cross first p → IsShort k v
  leftmost first p [] atf at turns all hf hp fp = let l = lt_true (pos 0) (cross p first) turns in absurd (omega (arith, ints))
  leftmost first p (q ∷ rest) atf at turns all hf hp fp =
      let ats = both_of (is_at r p) (all_at r (q ∷ rest)) at in
      let atq = both_of (is_at r q) (all_at r rest) ats.1 in
      let ts = both_of (int_lt (pos 0) (cross p q)) (turns_left first (q ∷ rest)) turns in
      let left = lt_true (pos 0) (cross p q) ts.0 in
      by_lt_z (pos 0) (turn q v)
      (λ h. leftmost first q rest atf ats.1 ts.1 (λ j d l. all (suc j) d (omega arith)) hf h (left_above first.x first.y p.x p.y q.x q.y v.x v.y fp left hf hp h))
      (λ h. in_sector p q (eq_true (square p) (r *ℤ r) ats.0) (eq_true (square q) (r *ℤ r) atq.0) left (all 0 (edge_plane r k p q) (omega arith)) (omega (arith, ints)) h)

  -- v lies to the right of all points so far
  rightmost : (first p : V2) (rest : List V2) → square first ≡ r *ℤ r → all_at r (p ∷ rest) ≡ true → turns_left first (p ∷ rest) ≡ true → InAll (edge_planes r k first (p ∷ rest))
      → turn first v <ℤ pos 0 → turn p v <ℤ pos 0 → pos 0 ≤ℤ cross first p → IsShort k v
  rightmost first p [] atf at turns all hf hp fp = let l = lt_true (pos 0) (cross p first) turns in absurd (omega (arith, ints))
  rightmost first p (q ∷ rest) atf at turns all hf hp fp =
      let ats = both_of (is_at r p) (all_at r (q ∷ rest)) at in
      let ts = both_of (int_lt (pos 0) (cross p q)) (turns_left first (q ∷ rest)) turns in
      let left = lt_true (pos 0) (cross p q) ts.0 in
      let more : InAll (edge_planes r k first (q ∷ rest)) = λ j d l. all (suc j) d (omega arith) in
      by_lt_z (turn q v) (pos 0)
      (λ h. rightmost first q rest atf ats.1 ts.1 more hf h (left_below first.x first.y p.x p.y q.x q.y v.x v.y fp left hf hp h))
      (λ h. rising first q rest atf ats.1 ts.1 more (omega (arith, ints)) h)

  round_short : (first : V2) (rest : List V2) → is_round r (first ∷ rest) ≡ true → InAll (edge_planes r k first (first ∷ rest)) → IsShort k v
  round_short p rest t all =
      let ts = both_of (all_at r (p ∷ rest)) (turns_left p (p ∷ rest)) t in
      let atp = eq_true (square p) (r *ℤ r) (both_of (is_at r p) (all_at r rest) ts.0).0 in
      let itself : pos 0 ≤ℤ cross p p = omega (arith, ints) in
      by_lt_z (pos 0) (turn p v)
      (λ h. leftmost p p rest atp ts.0 ts.1 all h h itself)
      (λ h. by_lt_z (turn p v) (pos 0)
      (λ l. rightmost p p rest atp ts.0 ts.1 all l l itself)
      (λ l. rising p p rest atp ts.0 ts.1 all h l))

pub ring_short : (r : ℤ) (ps : List V2) (speed : ℕ) (v : Rational) → pos 0 <ℤ r → pos 0 <ℤ v.q → is_round r ps ≡ true → All (λ plane. IsIn plane v) (ring_planes_of r ps speed) → IsShort (speed - 1) v
ring_short r [] speed v hr hq t all = absurd (cc t)
ring_short r (p ∷ rest) speed v hr hq t all = round_short r (speed - 1) v hr hq p rest t all
