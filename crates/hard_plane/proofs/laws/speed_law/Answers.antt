use Rattle.std.proofs.Common.{◌-◌, arith}
use Rattle.hard_plane.proofs.ScenarioRings.{polygon_short}
use Rattle.hard_plane.proofs.ShortPoint.{rounded_within, short_coordinates}
use Rattle.hard_plane.proofs.laws.speed_law.Goals as goal

pub returns : goal.returns
returns c =
    let (ring, inside) = c.requires.inside in
    let q = c.q.ensures.fits.positive in
    let short = polygon_short ring c.args.speed c.args.point.now q inside in
    let near = short_coordinates c.args.point.now (c.args.speed - 1) (omega (arith, c.requires.speed)) q short in
    record { across = near.0; along = near.1; within_speed = rounded_within c.args.point.now c.args.speed q short }
