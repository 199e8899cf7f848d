use Rattle.std.proofs.Common.{arith, w64, FitsSigned, to_z-of_z, rules}
use Rattle.std.proofs.lemmas.Int.{ints}
use Rattle.std.specs.Int.{w128}
use Rattle.crowd_data.specs.declared.pair.Region.TheVariants.{Overlap}
use Rattle.crowd_data.specs.Pairs.{relative_in}
use Rattle.pair_plane.proofs.Sized.{fits_sized}
use Rattle.pair_plane.proofs.RelativePlanes.{overlap_sized}
use Rattle.pair_plane.proofs.relative.overlap_plane.Goals as goal

pub of-requires : goal.of-requires
of-requires c =
    let f : FitsSigned w64 c.held_off.result = search rules in
    let g : FitsSigned w128 c.held_off.result = omega (arith, ints) in
    let h = fits_sized (relative_in c.args.pair.now.low c.args.pair.now.high c.args.pair.now.tau Overlap) 131072 (omega arith) (overlap_sized _ _ _ c.args.pair.now.limits) in
    simp to_z-of_z (rw (c.held_off.ensures, c.overlap_normal-n.ensures.value) h)
