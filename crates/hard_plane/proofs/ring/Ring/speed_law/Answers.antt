use Rattle.std.proofs.Common.{◌-◌, arith}
use Rattle.hard_plane.proofs.RingPoints.{ring_bounds}
use Rattle.hard_plane.proofs.ShortPoint.{rounded_within, short_coordinates}
use Rattle.hard_plane.proofs.SpeedPolygon.{ring_short}
use Rattle.hard_plane.proofs.ring.Ring.speed_law.Goals as goal

pub returns : goal.returns
returns g c =
    let b = ring_bounds c.args.self.now.radius c.args.self.now.points c.args.self.now.round in
    let q = c.q.ensures.fits.positive in
    let short = ring_short c.args.self.now.radius c.args.self.now.points c.args.speed c.args.point.now b.0 q b.2 c.requires.inside in
    let near = short_coordinates c.args.point.now (c.args.speed - 1) (omega (arith, c.requires.speed)) q short in
    record { across = near.0; along = near.1; within_speed = rounded_within c.args.point.now c.args.speed q short }
