use Rattle.std.proofs.Common.{◌^◌, sym, subst}
use Rattle.fixed_vec.proofs.Sizes.{normal_small}
use Rattle.crowd_data.specs.Limits.{IsWithin}
use Rattle.pair_plane.proofs.share.normal.Goals as goal

pub returns-clause-small : goal.returns-clause-small
returns-clause-small c = subst (λ n. IsWithin n (2 ^ 32)) (sym c.n.ensures.value) (normal_small c.args.plane.now.n c.n.ensures.fits.normal)
