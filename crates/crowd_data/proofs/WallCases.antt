-- What holds in each case of a wall plane holds of the wall plane.
use Rattle.std.proofs.Common.{◌≡◌, refl, Bool, true, false, ◌&&◌, if◌then◌else◌, arith, ℤ, pos, ◌≤ℤ◌, ◌<ℤ◌, int_lt, int_le}
use Rattle.std.proofs.lemmas.Int.{ints}
use Rattle.exact_algebra.proofs.Tests.{le_true, le_false, lt_true, lt_false}
use Rattle.fixed_vec.specs.declared.vector.V2.{V2}
use Rattle.fixed_vec.specs.Vector.{cross, dot, minus, opposite, perp, square}
use Rattle.fixed_vec.specs.HalfPlane.{Plane}
use Rattle.crowd_data.specs.declared.agent.Agent.{Agent}
use Rattle.crowd_data.specs.declared.segment.Segment.{Segment}
use Rattle.crowd_data.specs.Walls.{is_beside, normal_beside, plane_from, wall_plane}

by_bool : {A : Type 0} (b : Bool) (x y : A) (P : A → Type 0) → (b ≡ true → P x) → (b ≡ false → P y) → P (if b then x else y)
by_bool true x y P f g = f refl
by_bool false x y P f g = g refl

pub beside_true : (p d : V2) → is_beside p d ≡ true → (pos 0 <ℤ dot p d) × (dot p d <ℤ square d)
beside_true p d h = by (dot p d) (square d) h
  where
    by : (z e : ℤ) → (int_lt (pos 0) z && int_lt z e) ≡ true → (pos 0 <ℤ z) × (z <ℤ e)
    by z e h = (grind (arith, ints), grind (arith, ints))

pub beside_false : (p d : V2) → is_beside p d ≡ false → pos 0 <ℤ dot p d → square d ≤ℤ dot p d
beside_false p d h l = by (dot p d) (square d) h l
  where
    by : (z e : ℤ) → (int_lt (pos 0) z && int_lt z e) ≡ false → pos 0 <ℤ z → e ≤ℤ z
    by z e h l = grind (arith, ints)

-- the two sides of a segment with the direction d
pub normal_elim : (p d : V2) (P : V2 → Type 0) → (pos 0 <ℤ cross d p → P (perp d)) → (cross d p ≤ℤ pos 0 → P (opposite (perp d))) → P (normal_beside p d)
normal_elim p d P left right =
    by_bool (int_lt (pos 0) (cross d p)) (perp d) (opposite (perp d)) P (λ t. left (lt_true (pos 0) (cross d p) t)) (λ t. right (lt_false (pos 0) (cross d p) t))

-- beside the segment, before its near end, and beyond its far end
pub wall_elim : (at : V2) (agent : Agent) (segment : Segment) (P : Plane → Type 0)
    → (pos 0 <ℤ dot (minus at segment.a) (minus segment.b segment.a) → dot (minus at segment.a) (minus segment.b segment.a) <ℤ square (minus segment.b segment.a)
    → P (plane_from (normal_beside (minus at segment.a) (minus segment.b segment.a)) segment.a at agent))
    → (dot (minus at segment.a) (minus segment.b segment.a) ≤ℤ pos 0 → P (plane_from (minus at segment.a) segment.a at agent))
    → (square (minus segment.b segment.a) ≤ℤ dot (minus at segment.a) (minus segment.b segment.a) → P (plane_from (minus at segment.b) segment.b at agent))
    → P (wall_plane at agent segment)
wall_elim at agent segment P beside before after =
    let p = minus at segment.a in
    let d = minus segment.b segment.a in
    by_bool (is_beside p d) _ _ P
    (λ t. let h = beside_true p d t in beside h.0 h.1)
    (λ t. by_bool (int_le (dot p d) (pos 0)) _ _ P
    (λ l. before (le_true (dot p d) (pos 0) l))
    (λ l. after (beside_false p d t (le_false (dot p d) (pos 0) l))))
