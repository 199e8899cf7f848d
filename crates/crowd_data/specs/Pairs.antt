-- Two discs: the half-plane of their relative velocity, and the share of it that each of them takes.
-- After van den Berg, Guy, Lin and Manocha, "Reciprocal n-Body Collision Avoidance", sections 3 and 4.
-- `low` is the disc of the agent with the lower number, `high` the other.
use Rattle.std.specs.Prelude.{ℕ, ◌+◌, ◌^◌, ◌≤◌, ℤ, pos, ◌<ℤ◌, ◌+ℤ◌, ◌-ℤ◌, ◌*ℤ◌, neg_ℤ, unsigned_abs, Bool, int_lt, ◌&&◌, if◌then◌else◌}
use Rattle.std.specs.Ordering.{int_eq}
use Rattle.exact_algebra.specs.Numbers.{ceil, floor_root}
use Rattle.fixed_vec.specs.declared.vector.V2.{V2}
use Rattle.fixed_vec.specs.Vector.{cross, dot, minus, opposite, perp, square, times}
use Rattle.fixed_vec.specs.HalfPlane.{Plane, whole_length}
use Rattle.crowd_data.specs.declared.limits.TheConstants.{GREATEST_HORIZON, GREATEST_RADIUS}
use Rattle.crowd_data.specs.declared.pair.Disc.{Disc}
use Rattle.crowd_data.specs.Limits.{IsVelocity}
use Rattle.crowd_data.specs.declared.pair.Region.{Region}
use Rattle.crowd_data.specs.declared.pair.Region.TheVariants.{Arc, Left, Right, Overlap}

-- where the high disc is, seen from the low one
abbrev pub relative_position : Disc → Disc → V2
relative_position low high = minus high.pos low.pos

-- how the low disc moves, seen from the high one
abbrev pub relative_velocity : Disc → Disc → V2
relative_velocity low high = minus low.vel high.vel

-- the sum of the radii
abbrev pub combined_radius : Disc → Disc → ℤ
combined_radius low high = pos (low.radius + high.radius)

-- from the centre of the cut-off disc to the relative velocity, times the horizon
abbrev pub from_cutoff : Disc → Disc → ℕ → V2
from_cutoff low high tau = minus (times (pos tau) (relative_velocity low high)) (relative_position low high)

-- the limits within which the half-planes of a pair are made
pub record IsPair (low high : Disc) (tau : ℕ) : Type 0 where
  pub near : square (relative_position low high) <ℤ pos (2 ^ 32)
  pub low_vel : IsVelocity low.vel
  pub high_vel : IsVelocity high.vel
  pub some_low_radius : 1 ≤ low.radius
  pub low_radius : low.radius ≤ GREATEST_RADIUS
  pub some_high_radius : 1 ≤ high.radius
  pub high_radius : high.radius ≤ GREATEST_RADIUS
  pub some_tau : 1 ≤ tau
  pub tau_limit : tau ≤ GREATEST_HORIZON

-- the discs overlap; touching discs don't
abbrev pub is_overlap : Disc → Disc → Bool
is_overlap low high = int_lt (square (relative_position low high)) (combined_radius low high *ℤ combined_radius low high)

-- the relative velocity is nearest to the arc of the cut-off disc, not to a leg
abbrev pub is_arc : Disc → Disc → ℕ → Bool
is_arc low high tau =
    let W = from_cutoff low high tau in
    let p = relative_position low high in
    let R = combined_radius low high in
    int_lt (dot W p) (pos 0) && int_lt (R *ℤ R *ℤ square W) (dot W p *ℤ dot W p)

-- which part of the border of the velocity obstacle counts; the first that holds decides
abbrev pub region_of : Disc → Disc → ℕ → Region
region_of low high tau =
    if is_overlap low high then Overlap
    else if is_arc low high tau then Arc
    else if int_lt (pos 0) (cross (relative_position low high) (from_cutoff low high tau)) then Left
    else Right

-- the length of a leg, from the origin to where it touches the disc, rounded down
abbrev pub leg_length : Disc → Disc → ℤ
leg_length low high = pos (floor_root (unsigned_abs (square (relative_position low high) -ℤ combined_radius low high *ℤ combined_radius low high)))

-- the way out of an overlap within one step, or (1, 0) where there is none
abbrev pub overlap_normal : Disc → Disc → V2
overlap_normal low high =
    let u = minus (relative_velocity low high) (relative_position low high) in
    if int_eq (square u) (pos 0) then record { x = pos 1; y = pos 0 } else u

-- l*perp(p) - R*p for the left leg, -l*perp(p) - R*p for the right one
abbrev pub leg_normal : Disc → Disc → ℤ → V2
leg_normal low high l = minus (times l (perp (relative_position low high))) (times (combined_radius low high) (relative_position low high))

-- n . p + R * L(n)
abbrev pub held_off : Disc → Disc → V2 → ℤ
held_off low high n = dot n (relative_position low high) +ℤ combined_radius low high *ℤ pos (whole_length n)

-- the half-plane of relative velocities that the region asks for
abbrev pub relative_in : Disc → Disc → ℕ → Region → Plane
relative_in low high tau Overlap =
    record { n = overlap_normal low high; c = held_off low high (overlap_normal low high) }
relative_in low high tau Arc =
    record { n = from_cutoff low high tau; c = ceil (held_off low high (from_cutoff low high tau)) (pos tau) }
relative_in low high tau Left = record { n = leg_normal low high (leg_length low high); c = pos 0 }
relative_in low high tau Right = record { n = leg_normal low high (neg_ℤ (leg_length low high)); c = pos 0 }

-- the half-plane of the relative velocities that keep the discs apart for the horizon
abbrev pub relative_plane : Disc → Disc → ℕ → Plane
relative_plane low high tau = relative_in low high tau (region_of low high tau)

-- what the relative velocity lacks to be in the half-plane
abbrev pub lack : Disc → Disc → ℕ → ℤ
lack low high tau = (relative_plane low high tau).c -ℤ dot (relative_plane low high tau).n (relative_velocity low high)

-- of what is lacking, the part of the agent with the weight a, the other one's being b; rounded up
abbrev pub part_of : ℤ → ℕ → ℕ → ℤ
part_of g a b = ceil (g *ℤ pos a) (pos (a + b))

-- the half-plane of the lower agent: it makes up its part of what is lacking, by the weights of both
abbrev pub lower_share : Disc → Disc → ℕ → ℕ → ℕ → Plane
lower_share low high tau low_weight high_weight =
    record {
      n = (relative_plane low high tau).n;
      c = dot (relative_plane low high tau).n low.vel +ℤ part_of (lack low high tau) low_weight high_weight;
    }

-- the half-plane of the higher agent: it makes up the rest
abbrev pub higher_share : Disc → Disc → ℕ → ℕ → ℕ → Plane
higher_share low high tau low_weight high_weight =
    record {
      n = opposite (relative_plane low high tau).n;
      c = neg_ℤ (dot (relative_plane low high tau).n high.vel) +ℤ (lack low high tau -ℤ part_of (lack low high tau) low_weight high_weight);
    }
