use Rattle.std.proofs.Common.{arith, w64, FitsSigned, to_z-of_z, rules}
use Rattle.std.proofs.lemmas.Int.{ints}
use Rattle.std.specs.Int.{w128}
use Rattle.crowd_data.specs.declared.pair.Region.TheVariants.{Arc}
use Rattle.pair_plane.proofs.RelativePlanes.{relative_fits}
use Rattle.pair_plane.proofs.relative.arc_plane.Goals as goal

pub of-requires : goal.of-requires
of-requires c =
    let f : FitsSigned w64 c.arc_offset.result = search rules in
    let g : FitsSigned w128 c.arc_offset.result = omega (arith, ints) in
    let h = relative_fits c.args.pair.now.low c.args.pair.now.high c.args.pair.now.tau Arc c.args.pair.now.limits c.requires in
    simp to_z-of_z (rw (c.arc_offset.ensures, c.from_cutoff.ensures.value) h)
