use Rattle.std.proofs.Common.{◌≡◌, ◌++◌, take, drop}
use Rattle.crowd_data.specs.Neighbours.{placed_in}
use Rattle.agent_kdtree.specs.Seen.{seen_all, seen_of}
use Rattle.agent_kdtree.proofs.near.place_for.Given as goal

-- the rest of the list gives the place
abbrev pub invariant-loop-i : goal.invariant-loop-i
invariant-loop-i l = placed_in (seen_of l.near) (seen_all l.items) ≡ take l.i (seen_all l.items) ++ placed_in (seen_of l.near) (drop l.i (seen_all l.items))
