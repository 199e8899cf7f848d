-- What an agent does among half-planes of which it never gives up the first few.
use Rattle.std.specs.Prelude.{◌≡◌, ◌≢◌, ◌<◌, ◌⊎◌, ℕ, List, take}
use Rattle.fixed_vec.specs.declared.vector.V2.{V2}
use Rattle.fixed_vec.specs.Vector.{zero_vector}
use Rattle.fixed_vec.specs.HalfPlane.{Plane}
use Rattle.fixed_vec.specs.Meeting.{IsEmpty, Nearest, relieved_after}
use Rattle.fixed_vec.specs.Point.{Rational, rounded_of}
use Rattle.crowd_data.specs.declared.frame.Mark.{Mark}
use Rattle.crowd_data.specs.declared.frame.Mark.TheVariants.{Feasible, Fallback, Stopped}
use Rattle.planar_program.specs.Met.{IsMet}

-- it stands still where the hard half-planes have no common point
pub record StandsAmong (hard : ℕ) (planes : List Plane) (vel : V2) (mark : Mark) (relief : ℕ) : Type 0 where
  pub no_room : IsEmpty (take hard planes)
  pub still : vel ≡ zero_vector
  pub stopped : mark ≡ Stopped
  pub unrelieved : relief ≡ 0

-- and else relieves the soft ones as little as it can, and takes the rounding of the common point that is
-- nearest to its preferred velocity
pub record GivesWayAmong (hard : ℕ) (planes : List Plane) (pref vel : V2) (mark : Mark) (relief : ℕ) : Type 0 where
  pub room : IsMet (take hard planes)
  pub least : (d : ℕ) → d < relief → IsEmpty (relieved_after hard d planes)
  pub nearest : (p : Rational) × Nearest (relieved_after hard relief planes) pref p × (vel ≡ rounded_of p)
  pub feasible : relief ≡ 0 → mark ≡ Feasible
  pub fallback : relief ≢ 0 → mark ≡ Fallback

abbrev pub AdvisedAmong : ℕ → List Plane → V2 → V2 → Mark → ℕ → Type 0
AdvisedAmong hard planes pref vel mark relief = StandsAmong hard planes vel mark relief ⊎ GivesWayAmong hard planes pref vel mark relief
