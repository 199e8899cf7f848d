use Rattle.std.proofs.Common.{◌≡◌, ap, ◌∙◌, rules, arith, FitsSigned, w64, to_z-of_z}
use Rattle.std.specs.Int.{w128}
use Rattle.std.proofs.lemmas.Int.{ints}
use Rattle.exact_algebra.specs.Numbers.{ceil}
use Rattle.hard_plane.proofs.RingPoints.{ring_bounds}
use Rattle.hard_plane.proofs.ring.Ring.offset.Goals as goal

pub quotient_up-requires-clause-positive : goal.quotient_up-requires-clause-positive
quotient_up-requires-clause-positive g c =
    let b = ring_bounds c.args.self.now.radius c.args.self.now.points c.args.self.now.round in
    let f : FitsSigned w64 c.args.self.now.radius = omega (arith, ints, b.0, b.1) in
    simp to_z-of_z b.0

pub returns : goal.returns
returns g c =
    let b = ring_bounds c.args.self.now.radius c.args.self.now.points c.args.self.now.round in
    let f : FitsSigned w64 c.args.self.now.radius = omega (arith, ints, b.0, b.1) in
    let h : FitsSigned w64 c.scaled_offset.result = search rules in
    let i : FitsSigned w128 c.quotient_up.result = search rules in
    let e : c.quotient_up.result ≡ ceil c.scaled_offset.result c.args.self.now.radius = simp to_z-of_z at c.quotient_up.ensures in
    simp to_z-of_z (e ∙ ap (λ z. ceil z c.args.self.now.radius) c.scaled_offset.ensures.value)
