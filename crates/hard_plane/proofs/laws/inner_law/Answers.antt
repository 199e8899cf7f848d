use Rattle.hard_plane.proofs.InnerDisc.{inner_in_polygon}
use Rattle.hard_plane.proofs.laws.inner_law.Goals as goal

pub returns : goal.returns
returns c = inner_in_polygon c.args.point.now c.args.speed c.q.ensures.fits.positive c.requires.speed c.requires.inner
