use Rattle.std.proofs.Common.{◌∙◌, ap, map, sym}
use Rattle.crowd_data.specs.Advice.{place_of}
use Rattle.crowd_data.specs.Run.{Snapshot, crowd_of}
use Rattle.crowd_data.proofs.Frames.{start_present}
use Rattle.agent_step.proofs.FirstFrames.{crowd_of-start}
use Rattle.array_step.proofs.first_step.FirstStep.open.Goals as goal

pub invariant_of-result : goal.invariant_of-result
invariant_of-result c =
    let scenario = c.args.scenario in
    let valid = c.agents.ensures.valid in
    let start = c.in_ok-frame.ensures in
    let crowd = ap (λ (frame : Snapshot). crowd_of scenario.agents frame.bodies) start ∙ crowd_of-start 0 scenario.agents in
    record {
      valid = valid;
      start = start;
      frozen = record {
        present = rw start (start_present scenario valid);
        polygons = c.in_ok-polygons.ensures.polygons;
        walls = c.in_ok-polygons.ensures.walls;
        places = c.in_ok-places.ensures.places ∙ ap (map place_of) (c.agents.ensures.value ∙ sym crowd);
        tree = c.in_ok-places.ensures.tree;
      };
      planes = rw c.segments.ensures.value at c.in_ok-scratch.ensures;
    }
