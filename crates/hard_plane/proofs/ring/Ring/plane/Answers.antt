use Rattle.std.proofs.Common.{◌-◌, Some, refl, sym, ap, ◌∙◌, arith, FitsSigned, rules, to_z-of_z}
use Rattle.std.specs.Int.{w128}
use Rattle.hard_plane.proofs.RingPoints.{length-ring_planes_of, ring_bounds}
use Rattle.hard_plane.proofs.EdgePlane.{edge_fits}
use Rattle.hard_plane.proofs.ring.Ring.plane.Goals as goal

pub of-requires : goal.of-requires
of-requires g c =
    let b = ring_bounds c.args.self.now.radius c.args.self.now.points c.args.self.now.round in
    let f : FitsSigned w128 c.offset.result = search rules in
    let n = edge_fits c.args.self.now.radius (c.args.speed - 1) c.point-m.result c.neighbour.result b.0 (omega (arith, c.requires.speed)) c.point-m.ensures.small c.neighbour.ensures.small c.neighbour.ensures.edge.left in
    simp to_z-of_z (simp (c.offset.ensures, c.saturating_sub.ensures, c.perp-normal.ensures, c.minus.ensures) n)

pub returns-clause-value : goal.returns-clause-value
returns-clause-value g c =
    let f : FitsSigned w128 c.offset.result = search rules in
    c.neighbour.ensures.edge.plane c.args.speed
    ∙ ap Some (sym (c.of.ensures ∙ simp to_z-of_z (simp (c.offset.ensures, c.saturating_sub.ensures, c.perp-normal.ensures, c.minus.ensures) refl)))

pub returns-clause-count : goal.returns-clause-count
returns-clause-count g c = length-ring_planes_of c.args.self.now.radius c.args.self.now.points c.args.speed ∙ c.point-m.ensures.count
