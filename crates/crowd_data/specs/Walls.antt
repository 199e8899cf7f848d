-- Wall segments: when a disc is clear of one, when one is in reach, and the half-plane that keeps off it.
use Rattle.std.specs.Prelude.{ℕ, ◌+◌, ◌*◌, ℤ, pos, ◌+ℤ◌, ◌-ℤ◌, ◌*ℤ◌, ◌≤ℤ◌, ◌<ℤ◌, Bool, int_lt, int_le, ◌&&◌, if◌then◌else◌}
use Rattle.std.specs.Int.{int_min, int_max}
use Rattle.exact_algebra.specs.Numbers.{ceil}
use Rattle.fixed_vec.specs.declared.vector.V2.{V2}
use Rattle.fixed_vec.specs.Vector.{cross, dot, minus, opposite, perp, square, times}
use Rattle.fixed_vec.specs.HalfPlane.{Plane, whole_length}
use Rattle.crowd_data.specs.declared.agent.Agent.{Agent}
use Rattle.crowd_data.specs.declared.segment.Segment.{Segment}

-- each point (k/m) d is at least so far from p
abbrev pub IsClearFrom : V2 → V2 → ℕ → Type 0
IsClearFrom p d radius = (k m : ℤ) → pos 0 ≤ℤ k → k ≤ℤ m → pos 0 <ℤ m
    → (m *ℤ m *ℤ (pos radius *ℤ pos radius)) ≤ℤ square (minus (times m p) (times k d))

-- a disc is clear of a segment: no point a + (k/m) (b - a) of the segment lies inside it; touching is clear
abbrev pub IsClear : V2 → ℕ → Segment → Type 0
IsClear at radius segment = IsClearFrom (minus at segment.a) (minus segment.b segment.a) radius

-- as far as an agent can come within its wall horizon, with its radius
abbrev pub reach_of : Agent → ℕ
reach_of agent = agent.radius + agent.wall_horizon * agent.speed

-- a coordinate lies between two others, grown on both sides
abbrev pub is_between : ℤ → ℤ → ℤ → ℤ → Bool
is_between z a b grown = int_le (int_min a b -ℤ grown) z && int_le z (int_max a b +ℤ grown)

-- a segment is in reach: the position lies in the segment's bounding box grown by the agent's reach
abbrev pub in_reach : V2 → Agent → Segment → Bool
in_reach at agent segment =
    is_between at.x segment.a.x segment.b.x (pos (reach_of agent)) && is_between at.y segment.a.y segment.b.y (pos (reach_of agent))

-- the foot of p on the direction d lies strictly between the ends
abbrev pub is_beside : V2 → V2 → Bool
is_beside p d = int_lt (pos 0) (dot p d) && int_lt (dot p d) (square d)

-- the normal of a segment with the direction d, on the side of p
abbrev pub normal_beside : V2 → V2 → V2
normal_beside p d = if int_lt (pos 0) (cross d p) then perp d else opposite (perp d)

-- the half-plane with the normal n that keeps the agent's disc off the point q for its wall horizon
abbrev pub plane_from : V2 → V2 → V2 → Agent → Plane
plane_from n q at agent = record { n = n; c = ceil (dot n (minus q at) +ℤ pos agent.radius *ℤ pos (whole_length n)) (pos agent.wall_horizon) }

-- the wall plane: from the foot inside the segment, or else from the nearest end
abbrev pub wall_plane : V2 → Agent → Segment → Plane
wall_plane at agent segment =
    let p = minus at segment.a in
    let d = minus segment.b segment.a in
    if is_beside p d then plane_from (normal_beside p d) segment.a at agent
    else if int_le (dot p d) (pos 0) then plane_from p segment.a at agent
    else plane_from (minus at segment.b) segment.b at agent
