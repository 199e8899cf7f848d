-- Half-planes that exclude each other, and up to which relief they do.
use Rattle.std.specs.Prelude.{ℕ, ◌^◌, ◌≤◌, List, ℤ, pos, ◌-ℤ◌, ◌*ℤ◌, ◌<ℤ◌, unsigned_abs}
use Rattle.fixed_vec.specs.HalfPlane.{Plane, FitsPlane}
use Rattle.fixed_vec.specs.Point.{Rational, IsIn}
use Rattle.fixed_vec.specs.Meeting.{IsEmpty, Meeting, relieved_after}

-- the half-plane moved back by `give` for each unit of relief
abbrev pub moved_back : Plane → ℤ → ℕ → Plane
moved_back plane give relief = record { n = plane.n; c = plane.c -ℤ pos relief *ℤ give }

-- the bounds of a half-plane and of what it gives
pub record FitsParty (plane : Plane) (give : ℤ) : Type 0 where
  pub bounds : FitsPlane plane
  pub small : unsigned_abs give ≤ 2 ^ 32

-- however a list is relieved, its common points are in the half-plane moved back
pub record IsParty (hard : ℕ) (planes : List Plane) (plane : Plane) (give : ℤ) : Type 0 where
  pub fits : FitsParty plane give
  pub has : (d : ℕ) (p : Rational) → Meeting (relieved_after hard d planes) p → IsIn (moved_back plane give d) p

-- a relief is too small: what it makes up for is less than what is lacking
abbrev pub IsTooSmall : ℤ → ℤ → ℕ → Type 0
IsTooSmall lack give relief = (pos relief *ℤ give) <ℤ lack

-- at each relief that is too small the list has no common point
abbrev pub IsCertificate : ℕ → List Plane → ℤ → ℤ → Type 0
IsCertificate hard planes lack give = (d : ℕ) → IsTooSmall lack give d → IsEmpty (relieved_after hard d planes)
