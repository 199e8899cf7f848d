use Rattle.std.proofs.Common.{◌≡◌, ◌≤◌, ◌+◌, ◌*◌, ◌++◌, length, map}
use Rattle.std.specs.List.{filter}
use Rattle.fixed_vec.specs.HalfPlane.{drawn_of}
use Rattle.crowd_data.specs.declared.segment.Segment.{Segment}
use Rattle.crowd_data.specs.Walls.{in_reach, wall_plane}
use Rattle.agent_step.proofs.Blocks.{planes_from}
use Rattle.agent_step.proofs.hard.push_walls.Given as goal

-- the half-planes so far, and those of the blocks that are left, are those of all segments
abbrev pub invariant-loop-k : goal.invariant-loop-k
invariant-loop-k l = record {
  items : l.planes.items ++ planes_from (λ (segment : Segment). drawn_of (wall_plane l.agent.pos l.agent segment)) (in_reach l.agent.pos l.agent) l.segments l.k
      ≡ l.fn.planes.items ++ map (λ (segment : Segment). drawn_of (wall_plane l.agent.pos l.agent segment)) (filter (in_reach l.agent.pos l.agent) l.segments);
  room : length l.planes.items + l.planes.spare ≡ length l.fn.planes.items + l.fn.planes.spare;
  left : length l.segments ≤ 16 * l.k + l.planes.spare;
}
