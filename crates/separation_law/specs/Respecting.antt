-- What a velocity has to be for a disc that is clear of a segment to stay off it.
use Rattle.std.specs.Prelude.{◌≡◌, ◌⊎◌, false, IsTrue, pos, ◌*ℤ◌, ◌≤ℤ◌}
use Rattle.fixed_vec.specs.declared.vector.V2.{V2}
use Rattle.fixed_vec.specs.Vector.{square, times, zero_vector}
use Rattle.fixed_vec.specs.Point.{IsIn, whole}
use Rattle.crowd_data.specs.declared.agent.Agent.{Agent}
use Rattle.crowd_data.specs.declared.segment.Segment.{Segment}
use Rattle.crowd_data.specs.Safety.{OffThroughout}
use Rattle.crowd_data.specs.Walls.{in_reach, wall_plane}

-- the segment is in reach and the velocity in its wall plane, or it is out of reach and the velocity no
-- longer than the agent's speed, or the velocity is zero
abbrev pub Respects : V2 → Agent → Segment → V2 → Type 0
Respects at agent segment vel =
    (IsTrue (in_reach at agent segment) × IsIn (wall_plane at agent segment) (whole vel))
    ⊎ (((in_reach at agent segment ≡ false) × (square vel ≤ℤ (pos agent.speed *ℤ pos agent.speed))) ⊎ (vel ≡ zero_vector))

-- the agent's disc stays off the segment throughout its wall horizon
abbrev pub StaysOffFor : V2 → Agent → Segment → V2 → Type 0
StaysOffFor at agent segment vel = OffThroughout at (times (pos agent.wall_horizon) vel) agent.radius segment
