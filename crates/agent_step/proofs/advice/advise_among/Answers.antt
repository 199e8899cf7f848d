use Rattle.std.proofs.Common.{inr}
use Rattle.agent_step.proofs.PolygonPoints.{meets_hard, meets_polygon, short_velocity}
use Rattle.agent_step.proofs.advice.advise_among.Goals as goal

pub speed_law-requires-clause-inside : goal.speed_law-requires-clause-inside
speed_law-requires-clause-inside c = meets_polygon c.args.planes.now c.args.hard _ c.args.agent.now.speed _ c.requires.polygon c.in-Some.ensures.nearest.meets

pub returns-clause-advised : goal.returns-clause-advised
returns-clause-advised c = inr (record {
  room = (_, meets_hard c.args.planes.now c.args.hard _ _ c.in-Some.ensures.nearest.meets);
  least = c.in-Some.ensures.least;
  nearest = (_, c.in-Some.ensures.nearest, c.rounded.ensures);
  feasible = c.mark_of.ensures.feasible;
  fallback = c.mark_of.ensures.fallback;
})

pub returns-clause-limits : goal.returns-clause-limits
returns-clause-limits c = record {
  slow = rw c.rounded.ensures (short_velocity _ c.args.agent.now.speed c.requires.build.speed c.speed_law.ensures.within_speed);
  speed = rw c.rounded.ensures c.speed_law.ensures.within_speed;
  relief = c.in-Some.ensures.greatest;
}
