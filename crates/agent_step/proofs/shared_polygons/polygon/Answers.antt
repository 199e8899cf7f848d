use Rattle.std.proofs.Common.{◌∙◌, ◌++◌, [], ◌∷◌, ap, arith, length-set, sym}
use Rattle.std.proofs.lemmas.List.{take_all, take_more_set}
use Rattle.crowd_data.specs.RingPlanes.{ring_planes_of}
use Rattle.hard_plane.proofs.RingPoints.{take-next}
use Rattle.agent_step.proofs.shared_polygons.polygon.Goals as goal

pub loop-k-preserved : goal.loop-k-preserved
loop-k-preserved g c =
    let ring = c.args.ring.now in (
      length-set c.loop-k.planes c.loop-k.k c.plane.result ∙ c.loop-k.invariant.0,
      take_more_set c.loop-k.planes c.loop-k.k c.plane.result (omega (arith, c.loop-k.invariant.0, c.loop-k-test.true))
          ∙ ap (λ planes. planes ++ c.plane.result ∷ []) c.loop-k.invariant.1
          ∙ sym (take-next (ring_planes_of ring.radius ring.points c.args.speed) c.loop-k.k c.plane.result c.plane.ensures.value),
    )

pub returns : goal.returns
returns g c =
    let ring = c.args.ring.now in
    sym (take_all c.loop-k.k c.loop-k.planes (omega (arith, c.loop-k.invariant.0, c.loop-k-test.false))) ∙ c.loop-k.invariant.1
    ∙ take_all c.loop-k.k (ring_planes_of ring.radius ring.points c.args.speed) (omega (arith, c.plane-planes.ensures.count, c.loop-k-test.false))
