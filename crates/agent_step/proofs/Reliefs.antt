-- The greatest relief is enough: every share so relieved has all points of a speed polygon.
use Rattle.std.proofs.Common.{◌≡◌, ◌-◌, ◌≤◌, ◌++◌, ℕ, List, All, drop, map, subst, arith}
use Rattle.std.proofs.lemmas.Int.{ints}
use Rattle.std.proofs.lemmas.List.Elements.{All-append, All-map, All-weaker}
use Rattle.fixed_vec.specs.HalfPlane.{Plane, relieved_of}
use Rattle.fixed_vec.specs.Point.{IsIn, IsPoint, IsShort, Rational, whole}
use Rattle.fixed_vec.specs.Vector.{zero_vector}
use Rattle.crowd_data.specs.RingPlanes.{ring_planes}
use Rattle.crowd_data.specs.declared.limits.TheConstants.{GREATEST_SPEED}
use Rattle.planar_program.specs.declared.relief.TheConstants.{GREATEST_RELIEF}
use Rattle.planar_line.specs.Relief.{CanBeRelieved, KeepBounds}
use Rattle.planar_program.specs.Met.{IsMet}
use Rattle.hard_plane.proofs.ScenarioRings.{polygon_short}
use Rattle.exact_algebra.proofs.Elements.{front_of}
use Rattle.pair_plane.specs.Sized.{IsShareSized}
use Rattle.pair_plane.proofs.EnoughRelief.{in_relieved, share_keeps}

-- shares keep their bounds
pub shares_keep : (hard : ℕ) (planes : List Plane) → All IsShareSized (drop hard planes) → KeepBounds hard GREATEST_RELIEF planes
shares_keep hard planes all = All-weaker IsShareSized (λ plane. CanBeRelieved plane GREATEST_RELIEF) (share_keeps GREATEST_RELIEF (omega arith)) (drop hard planes) all

-- and as they are, too
pub shares_stand : (hard : ℕ) (planes : List Plane) → All IsShareSized (drop hard planes) → KeepBounds hard 0 planes
shares_stand hard planes all = All-weaker IsShareSized (λ plane. CanBeRelieved plane 0) (share_keeps 0 (omega arith)) (drop hard planes) all

-- so what the hard half-planes have in common is in all shares so relieved
pub enough_relief : (hard soft walls : List Plane) (ring speed : ℕ) → speed ≤ GREATEST_SPEED → hard ≡ ring_planes ring speed ++ walls → All IsShareSized soft
    → IsMet hard → IsMet (hard ++ map (λ plane. relieved_of plane GREATEST_RELIEF) soft)
enough_relief hard soft walls ring speed limit are sized (p, meets) =
    let inside = front_of (λ plane. IsIn plane p) (ring_planes ring speed) walls (subst (λ (planes : List Plane). All (λ plane. IsIn plane p) planes) are meets.inside) in
    let short = polygon_short ring speed p meets.point inside in (
      p,
      record {
        point = meets.point;
        inside = All-append (λ plane. IsIn plane p) hard _ meets.inside
            (All-map (λ plane. IsIn plane p) (λ plane. relieved_of plane GREATEST_RELIEF) soft
            (All-weaker IsShareSized (λ plane. IsIn (relieved_of plane GREATEST_RELIEF) p) (λ plane h. in_relieved plane (speed - 1) p (omega arith) meets.point short h) soft sized));
      },
    )

-- without walls, all shares so relieved have the velocity zero
pub shares_met : (soft : List Plane) → All IsShareSized soft → IsMet (map (λ plane. relieved_of plane GREATEST_RELIEF) soft)
shares_met soft sized =
    let still : Rational = whole zero_vector in
    let point : IsPoint still = omega (arith, ints) in
    let short : IsShort 0 still = omega (arith, ints) in (
      still,
      record {
        point = point;
        inside = All-map (λ plane. IsIn plane still) (λ plane. relieved_of plane GREATEST_RELIEF) soft
            (All-weaker IsShareSized (λ plane. IsIn (relieved_of plane GREATEST_RELIEF) still) (λ plane h. in_relieved plane 0 still (omega arith) point short h) soft sized);
      },
    )
