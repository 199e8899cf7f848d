-- Half-planes whose offset is so many lengths of their normal.
use Rattle.std.specs.Prelude.{ℕ, ◌*◌, ◌^◌, ◌≤◌, pos, ◌<ℤ◌, unsigned_abs}
use Rattle.fixed_vec.specs.Vector.{square}
use Rattle.fixed_vec.specs.HalfPlane.{Plane, whole_length}

-- the offset is at most k lengths of the normal, which is as a half-plane's has to be
pub record Sized (plane : Plane) (k : ℕ) : Type 0 where
  pub nonzero : pos 0 <ℤ square plane.n
  pub normal : square plane.n <ℤ pos (2 ^ 64)
  pub offset : unsigned_abs plane.c ≤ k * whole_length plane.n

-- so is each agent's half-plane against a neighbour, once it is drawn in
abbrev pub IsShareSized : Plane → Type 0
IsShareSized plane = Sized plane 200585
