use Rattle.separation_law.proofs.Walls.{stays_off, stays_off_for}
use Rattle.separation_law.proofs.wall.off_segment.Goals as goal

pub returns : goal.returns
returns c = record {
  horizon = stays_off_for c.args.pos c.args.agent.now c.args.segment.now c.args.vel c.requires.some_radius c.requires.some_horizon c.requires.clear c.requires.respects;
  step = stays_off c.args.pos c.args.agent.now c.args.segment.now c.args.vel c.requires.some_radius c.requires.some_horizon c.requires.clear c.requires.respects;
}
