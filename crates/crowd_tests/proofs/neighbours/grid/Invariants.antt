use Rattle.std.proofs.Common.{◌≡◌, ◌≤◌, ◌+◌, length}
use Rattle.std.specs.List.{All}
use Rattle.agent_kdtree.specs.Placed.{IsPlaced}
use Rattle.crowd_tests.proofs.neighbours.grid.Given as goal

abbrev pub invariant-loop-i : goal.invariant-loop-i
invariant-loop-i l = record {
  count : length l.places.items ≡ l.i;
  room : 100000 ≤ l.i + l.places.spare;
  placed : All IsPlaced l.places.items;
}
