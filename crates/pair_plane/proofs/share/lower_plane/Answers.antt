use Rattle.std.proofs.Common.{w64, FitsSigned, to_z-of_z, rules}
use Rattle.pair_plane.proofs.Shares.{lower_sized}
use Rattle.pair_plane.proofs.Sized.{share_drawn_fits, share_fits, share_relieved_fits}
use Rattle.pair_plane.proofs.share.lower_plane.Goals as goal

pub drawn_in-requires : goal.drawn_in-requires
drawn_in-requires c =
    let f : FitsSigned w64 c.lower_offset-offset.result = search rules in
    let s = lower_sized c.args.low.now c.args.high.now c.args.tau c.args.low_weight c.args.high_weight c.requires.pair c.requires.high_weight.0 in
    simp to_z-of_z (rw (c.lower_offset-offset.ensures, c.normal.ensures.value, c.relative-relative.ensures) (record { fits = share_fits _ s; drawn_fits = share_drawn_fits _ s }))

pub returns-clause-relieved : goal.returns-clause-relieved
returns-clause-relieved c = λ relief below.
    let f : FitsSigned w64 c.lower_offset-offset.result = search rules in
    let s = lower_sized c.args.low.now c.args.high.now c.args.tau c.args.low_weight c.args.high_weight c.requires.pair c.requires.high_weight.0 in
    let e = simp to_z-of_z at c.drawn_in.ensures in
    rw (e, c.lower_offset-offset.ensures, c.normal.ensures.value, c.relative-relative.ensures) (share_relieved_fits _ relief s below)
