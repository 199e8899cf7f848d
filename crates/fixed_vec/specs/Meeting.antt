-- The common points of half-planes, and the nearest of them.
use Rattle.std.specs.Prelude.{ℕ, List, ◌++◌, map, take, drop, ℤ, ◌+ℤ◌, ◌-ℤ◌, ◌*ℤ◌, ◌≤ℤ◌}
use Rattle.std.specs.List.{All}
use Rattle.fixed_vec.specs.declared.vector.V2.{V2}
use Rattle.fixed_vec.specs.HalfPlane.{Plane, relieved_of}
use Rattle.fixed_vec.specs.Point.{Rational, IsPoint, IsIn}

-- the rational point is in each half-plane of the list
pub record Meeting (planes : List Plane) (p : Rational) : Type 0 where
  pub point : IsPoint p
  pub inside : All (λ plane. IsIn plane p) planes

-- no rational point is in all of them
abbrev pub IsEmpty : List Plane → Type 0
IsEmpty planes = (p : Rational) → Meeting planes p → ⊥

-- the squared distance of p from a whole point, times q squared
abbrev pub squared_distance : V2 → Rational → ℤ
squared_distance at p = (p.x -ℤ at.x *ℤ p.q) *ℤ (p.x -ℤ at.x *ℤ p.q) +ℤ (p.y -ℤ at.y *ℤ p.q) *ℤ (p.y -ℤ at.y *ℤ p.q)

-- p is at most as far from the whole point as v
abbrev pub IsNoFarther : V2 → Rational → Rational → Type 0
IsNoFarther at p v = (squared_distance at p *ℤ (v.q *ℤ v.q)) ≤ℤ (squared_distance at v *ℤ (p.q *ℤ p.q))

-- p is the common point that is nearest to the whole point
pub record Nearest (planes : List Plane) (pref : V2) (p : Rational) : Type 0 where
  pub meets : Meeting planes p
  pub no_farther : (v : Rational) → Meeting planes v → IsNoFarther pref p v

-- the first `hard` half-planes as they are, and each other one relieved
abbrev pub relieved_after : ℕ → ℕ → List Plane → List Plane
relieved_after hard relief planes = take hard planes ++ map (λ plane. relieved_of plane relief) (drop hard planes)
