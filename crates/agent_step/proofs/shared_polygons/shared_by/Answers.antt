use Rattle.std.proofs.Common.{◌∙◌, List, ap, map}
use Rattle.std.proofs.lemmas.Simd.{map-map}
use Rattle.fixed_vec.specs.HalfPlane.{Plane}
use Rattle.crowd_data.specs.declared.agent.Agent.{Agent}
use Rattle.crowd_data.specs.RingPlanes.{ring_planes_of}
use Rattle.agent_step.specs.SharedPolygons.{at_places}
use Rattle.agent_step.proofs.SharedPlaces.{mapped_places}
use Rattle.agent_step.proofs.shared_polygons.shared_by.Goals as goal

pub returns : goal.returns
returns g c =
    let ring = c.args.ring.now in
    let polygon = ring_planes_of ring.radius ring.points in
    let speeds = c.in_ok-speeds.field-0.speeds.items in
    let places = c.in_ok-speeds.field-0.places.items in
    ap (λ (l : List (List Plane)). at_places l places) (c.in_ok-polygons.ensures ∙ ap (map polygon) c.items.ensures)
    ∙ mapped_places polygon speeds places c.in_ok-speeds.ensures.within
    ∙ ap (map polygon) c.in_ok-speeds.ensures.places
    ∙ map-map polygon (λ (agent : Agent). agent.speed) c.args.agents.now
