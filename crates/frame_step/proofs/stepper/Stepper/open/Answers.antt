use Rattle.std.proofs.Common.{◌∙◌, ap, arith, length, map, sym, subst}
use Rattle.std.proofs.lemmas.List.{length-map}
use Rattle.crowd_data.specs.Advice.{place_of}
use Rattle.crowd_data.specs.Run.{Snapshot}
use Rattle.crowd_data.proofs.Frames.{length-starting_bodies, start_present}
use Rattle.agent_kdtree.specs.Stands.{HasRoomFor}
use Rattle.frame_step.specs.Workers.{IsTeam}
use Rattle.frame_step.proofs.stepper.Stepper.open.Goals as goal

pub invariant_of-result : goal.invariant_of-result
invariant_of-result c =
    let agents = c.args.scenario.agents in
    let count = ap length (c.in_ok-places.ensures.places ∙ ap (map place_of) c.agents.ensures.value) ∙ length-map agents place_of in
    record {
      valid = c.agents.ensures.valid;
      present = rw (c.in_ok-frame.ensures) (start_present c.args.scenario c.agents.ensures.valid);
      polygons = c.in_ok-polygons.ensures.polygons;
      walls = c.in_ok-polygons.ensures.walls;
      bodies = ap (λ (s : Snapshot). length s.bodies) c.in_ok-next.ensures ∙ length-starting_bodies 0 agents;
      places = omega (arith, count);
      tree = subst (HasRoomFor c.in_ok-places.tree) count c.in_ok-places.ensures.tree.room;
      workers = subst (λ (s : Snapshot). IsTeam c.args.scenario s.number c.in_ok-team.team) (sym c.in_ok-frame.ensures) c.in_ok-team.ensures;
    }
