use Rattle.std.proofs.Common.{rules}
use Rattle.hard_plane.proofs.RingPoints.{ring_point}
use Rattle.hard_plane.proofs.ring.Ring.point.Goals as goal

pub returns-clause-small : goal.returns-clause-small
returns-clause-small g c = ring_point c.args.self.now.radius c.args.self.now.points c.args.k _ c.args.self.now.round (search rules)
