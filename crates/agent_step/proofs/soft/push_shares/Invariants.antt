use Rattle.std.proofs.Common.{◌≡◌, ◌≤◌, ◌+◌, ◌++◌, drop, length, map}
use Rattle.crowd_data.specs.Advice.{share_against}
use Rattle.crowd_data.specs.Run.{crowd_of}
use Rattle.agent_kdtree.specs.declared.near.Near.{Near}
use Rattle.agent_step.proofs.soft.push_shares.Given as goal

-- the half-planes so far, and the shares against those that are left, are those of all
abbrev pub invariant-loop-other : goal.invariant-loop-other
invariant-loop-other l = record {
  items : l.planes.items ++ map (λ (near : Near). share_against (crowd_of l.agents l.bodies) l.who near.agent) (drop l.other-index l.near)
      ≡ l.fn.planes.items ++ map (λ (near : Near). share_against (crowd_of l.agents l.bodies) l.who near.agent) l.near;
  room : length l.planes.items + l.planes.spare ≡ length l.fn.planes.items + l.fn.planes.spare;
  left : length l.near ≤ l.other-index + l.planes.spare;
}
