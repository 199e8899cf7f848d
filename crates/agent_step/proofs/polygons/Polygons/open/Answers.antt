use Rattle.std.proofs.Common.{◌≡◌, ◌∙◌, ⊎_elim, sym, ap, map}
use Rattle.crowd_data.specs.declared.agent.Agent.{Agent}
use Rattle.crowd_data.specs.RingPlanes.{ring_planes, ring_points, ring_radius}
use Rattle.agent_step.proofs.PolygonPoints.{polygons_by}
use Rattle.agent_step.proofs.polygons.Polygons.open.Goals as goal

pub returns-then-ring-eq-FINE_RING : goal.returns-then-ring-eq-FINE_RING
returns-then-ring-eq-FINE_RING c =
    let fine : 60 ≡ c.args.scenario.now.ring = sym c.if-ring-eq-FINE_RING.true ∙ c.ring.ensures.value in
    c.in_ok-fine.ensures
    ∙ polygons_by c.args.scenario.now.ring _ _ _ (c.fine.ensures.radius ∙ ap ring_radius fine) (c.fine.ensures.points ∙ ap ring_points fine)
    ∙ ap (map (λ (agent : Agent). ring_planes c.args.scenario.now.ring agent.speed)) c.agents-agents.ensures.value

pub returns : goal.returns
returns c =
    let plain : 36 ≡ c.args.scenario.now.ring = ⊎_elim
    (λ e. sym e)
    (λ e. absurd (c.if-ring-eq-FINE_RING.false (c.ring.ensures.value ∙ e)))
    c.ring.ensures.valid.ring in
    c.in_ok-plain.ensures
    ∙ polygons_by c.args.scenario.now.ring _ _ _ (c.plain.ensures.radius ∙ ap ring_radius plain) (c.plain.ensures.points ∙ ap ring_points plain)
    ∙ ap (map (λ (agent : Agent). ring_planes c.args.scenario.now.ring agent.speed)) c.agents-agents.ensures.value
