use Rattle.std.proofs.Common.{w64, FitsSigned, sym, to_z-of_z, rules}
use Rattle.crowd_data.specs.declared.pair.Region.TheVariants.{Left, Right}
use Rattle.pair_plane.proofs.RelativePlanes.{relative_fits}
use Rattle.pair_plane.proofs.relative.relative.Goals as goal

pub leg_plane-requires-clause-fits : goal.leg_plane-requires-clause-fits
leg_plane-requires-clause-fits c =
    let f : FitsSigned w64 c.leg_length.result = search rules in
    simp to_z-of_z (rw c.leg_length.ensures.value
    (relative_fits c.args.pair.now.low c.args.pair.now.high c.args.pair.now.tau Left c.args.pair.now.limits (sym c.in-Left.ensures)))

pub leg_plane-requires-in-Right-clause-fits : goal.leg_plane-requires-in-Right-clause-fits
leg_plane-requires-in-Right-clause-fits c =
    let f : FitsSigned w64 c.opposite_leg.result = search rules in
    simp to_z-of_z (rw c.opposite_leg.ensures.value
    (relative_fits c.args.pair.now.low c.args.pair.now.high c.args.pair.now.tau Right c.args.pair.now.limits (sym c.in-Right.ensures)))
