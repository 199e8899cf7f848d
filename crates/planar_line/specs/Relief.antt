-- Lists of half-planes of which the first few are hard, and the others are relieved.
use Rattle.std.specs.Prelude.{ℕ, ◌^◌, ◌<◌, pos, neg_ℤ, ◌<ℤ◌, unsigned_abs, List, drop}
use Rattle.std.specs.List.{All}
use Rattle.fixed_vec.specs.HalfPlane.{Plane, FitsPlane, relieved_of}

-- the half-plane keeps the bounds of its type where it is relieved, which only lowers its offset
abbrev pub CanBeRelieved : Plane → ℕ → Type 0
CanBeRelieved plane relief = neg_ℤ (pos (2 ^ 53)) <ℤ (relieved_of plane relief).c

-- the half-plane can be relieved by each number below 2^18, since its offset is below 2^52 in size
pub record HasReliefRoom (plane : Plane) : Type 0 where
  pub fits : FitsPlane plane
  pub room : unsigned_abs plane.c < 2 ^ 52

-- each half-plane after the first `hard` keeps its bounds where it is relieved
abbrev pub KeepBounds : ℕ → ℕ → List Plane → Type 0
KeepBounds hard relief planes = All (λ plane. CanBeRelieved plane relief) (drop hard planes)

-- what stands for a half-plane past the end of a list
abbrev pub no_plane : Plane
no_plane = record { n = record { x = pos 0; y = pos 0 }; c = pos 0 }
