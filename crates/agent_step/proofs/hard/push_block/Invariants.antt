use Rattle.std.proofs.Common.{◌≡◌, ◌≤◌, ◌+◌, ◌++◌, drop, length, map}
use Rattle.std.specs.List.{filter}
use Rattle.fixed_vec.specs.HalfPlane.{drawn_of}
use Rattle.crowd_data.specs.declared.segment.Segment.{Segment}
use Rattle.crowd_data.specs.Walls.{in_reach, wall_plane}
use Rattle.agent_step.proofs.hard.push_block.Given as goal

-- the half-planes so far, and those of the segments that are left, are those of all segments
abbrev pub invariant-loop-segment : goal.invariant-loop-segment
invariant-loop-segment l = record {
  items : l.planes.items ++ map (λ (segment : Segment). drawn_of (wall_plane l.agent.pos l.agent segment)) (filter (in_reach l.agent.pos l.agent) (drop l.segment-index l.segments))
      ≡ l.fn.planes.items ++ map (λ (segment : Segment). drawn_of (wall_plane l.agent.pos l.agent segment)) (filter (in_reach l.agent.pos l.agent) l.segments);
  room : length l.planes.items + l.planes.spare ≡ length l.fn.planes.items + l.fn.planes.spare;
  used : l.fn.planes.spare ≤ l.segment-index + l.planes.spare;
  left : length l.segments ≤ l.segment-index + l.planes.spare;
}
