use Rattle.std.proofs.Common.{◌≡◌, ◌≤◌, ◌+◌, length, map, take}
use Rattle.crowd_data.specs.RingPlanes.{ring_planes_of}
use Rattle.agent_step.proofs.shared_polygons.polygons_of.Given as goal

-- the polygons of the speeds so far, and room for those of the others
abbrev pub invariant-loop-speed : goal.invariant-loop-speed
invariant-loop-speed g l = record {
  items : l.polygons.items ≡ map (ring_planes_of l.ring.radius l.ring.points) (take l.speed-index l.speeds);
  room : length l.speeds ≤ l.speed-index + l.polygons.spare;
}
