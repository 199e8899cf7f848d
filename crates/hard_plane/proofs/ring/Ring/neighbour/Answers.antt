use Rattle.std.proofs.Common.{rules, ◌+◌}
use Rattle.hard_plane.proofs.RingPoints.{ring_point, ring_next, ring_last}
use Rattle.hard_plane.proofs.ring.Ring.neighbour.Goals as goal

pub returns-then-k-clause-small : goal.returns-then-k-clause-small
returns-then-k-clause-small g c = ring_point c.args.self.now.radius c.args.self.now.points 0 _ c.args.self.now.round (search rules)

pub returns-then-k-clause-edge : goal.returns-then-k-clause-edge
returns-then-k-clause-edge g c = ring_last c.args.self.now.radius c.args.self.now.points c.args.k c.args.m _ c.args.self.now.round c.requires.point (search rules)

pub returns-else-k-clause-small : goal.returns-else-k-clause-small
returns-else-k-clause-small g c = ring_point c.args.self.now.radius c.args.self.now.points (c.args.k + 1) _ c.args.self.now.round (search rules)

pub returns-else-k-clause-edge : goal.returns-else-k-clause-edge
returns-else-k-clause-edge g c = ring_next c.args.self.now.radius c.args.self.now.points c.args.k c.args.m _ c.args.self.now.round c.requires.point (search rules)
