-- The points of a border that earlier half-planes admit.
use Rattle.std.specs.Prelude.{ℕ, List, take, slice_index_or}
use Rattle.fixed_vec.specs.declared.vector.V2.{V2}
use Rattle.fixed_vec.specs.HalfPlane.{Plane}
use Rattle.fixed_vec.specs.Point.{Rational}
use Rattle.fixed_vec.specs.Meeting.{Meeting, IsNoFarther}
use Rattle.planar_line.specs.Border.{IsOnBorder}
use Rattle.planar_line.specs.Relief.{no_plane}

-- p is on the border of the half-plane at the place `line`, and in each half-plane before it
pub record IsAdmitted (planes : List Plane) (line : ℕ) (p : Rational) : Type 0 where
  pub on : IsOnBorder (slice_index_or planes line no_plane) p
  pub earlier : Meeting (take line planes) p

-- p is the admitted point that is nearest to the whole point
pub record NearestAdmitted (planes : List Plane) (line : ℕ) (pref : V2) (p : Rational) : Type 0 where
  pub admitted : IsAdmitted planes line p
  pub no_farther : (v : Rational) → IsAdmitted planes line v → IsNoFarther pref p v
