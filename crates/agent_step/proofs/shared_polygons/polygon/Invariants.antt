use Rattle.std.proofs.Common.{◌≡◌, length, take}
use Rattle.crowd_data.specs.RingPlanes.{ring_planes_of}
use Rattle.agent_step.proofs.shared_polygons.polygon.Given as goal

-- the first half-planes are those of the polygon
abbrev pub invariant-loop-k : goal.invariant-loop-k
invariant-loop-k g l = (length l.planes ≡ g.row.K) × (take l.k l.planes ≡ take l.k (ring_planes_of l.ring.radius l.ring.points l.speed))
