-- The half-planes that the program has taken so far.
use Rattle.std.specs.Prelude.{ℕ, List, slice_index_or, pos, ◌≤ℤ◌}
use Rattle.std.specs.List.{slice_range}
use Rattle.fixed_vec.specs.declared.vector.V2.{V2}
use Rattle.fixed_vec.specs.HalfPlane.{Plane}
use Rattle.fixed_vec.specs.Point.{Rational, IsIn}
use Rattle.fixed_vec.specs.Meeting.{Meeting}
use Rattle.planar_line.specs.Border.{IsOnBorder, toward}
use Rattle.planar_line.specs.Relief.{no_plane}

-- p is in the half-planes from the place `head` up to `head_end`, which come first, in each soft one up to the place
-- `soft_end`, and in each hard one up to `hard_end`
pub record IsTaken (planes : List Plane) (hard head head_end soft_end hard_end : ℕ) (p : Rational) : Type 0 where
  pub first : Meeting (slice_range planes head head_end) p
  pub soft : Meeting (slice_range planes hard soft_end) p
  pub firm : Meeting (slice_range planes 0 hard_end) p

-- p is on the border of the half-plane at a place, and in each half-plane taken
pub record IsOnTaken (planes : List Plane) (place hard head head_end soft_end hard_end : ℕ) (p : Rational) : Type 0 where
  pub on : IsOnBorder (slice_index_or planes place no_plane) p
  pub taken : IsTaken planes hard head head_end soft_end hard_end p

-- p is in each half-plane taken, and in the one at a place
pub record IsTakenWith (planes : List Plane) (place hard head head_end soft_end hard_end : ℕ) (p : Rational) : Type 0 where
  pub taken : IsTaken planes hard head head_end soft_end hard_end p
  pub inside : IsIn (slice_index_or planes place no_plane) p

-- p is one of a set of points, and no other lies on the side of pref
pub record IsBest (A : Rational → Type 0) (pref : V2) (p : Rational) : Type 0 where
  pub inside : A p
  pub toward : (v : Rational) → A v → toward pref p v ≤ℤ pos 0
