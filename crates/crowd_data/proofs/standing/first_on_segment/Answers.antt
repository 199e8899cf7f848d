use Rattle.std.proofs.Common.{All, arith}
use Rattle.std.proofs.lemmas.Option.{slice_get-get_or}
use Rattle.crowd_data.specs.declared.agent.Agent.{Agent}
use Rattle.crowd_data.specs.Walls.{IsClear}
use Rattle.crowd_data.proofs.SoFar.{all_more, all_of_so_far}
use Rattle.crowd_data.proofs.standing.first_on_segment.Goals as goal

pub returns-in-Some-clause-some : goal.returns-in-Some-clause-some
returns-in-Some-clause-some c =
    let (segment, is, touched, least) = c.in-Some.ensures.some in
    record {
      agent = _;
      segment = segment;
      agent_is = slice_get-get_or c.args.agents.now c.loop-who.who _ c.loop-who-test.true;
      segment_is = is;
      touched = touched;
      least_segment = least;
      least_agent = c.loop-who.invariant;
    }

pub loop-who-preserved : goal.loop-who-preserved
loop-who-preserved c =
    all_more (λ (agent : Agent). All (IsClear agent.pos agent.radius) c.args.segments.now) c.args.agents.now c.loop-who.who _ c.loop-who-test.true c.loop-who.invariant
    c.in_default.ensures.none

pub returns-clause-none : goal.returns-clause-none
returns-clause-none c =
    all_of_so_far (λ (agent : Agent). All (IsClear agent.pos agent.radius) c.args.segments.now) c.args.agents.now c.loop-who.who (omega (arith, c.loop-who-test.false)) c.loop-who.invariant
