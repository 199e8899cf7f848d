use Rattle.std.proofs.Common.{◌^◌, sym, subst, rules}
use Rattle.fixed_vec.specs.Vector.{IsBelow}
use Rattle.pair_plane.proofs.Sizes.{cutoff_small}
use Rattle.pair_plane.proofs.pair.Pair.from_cutoff.Goals as goal

pub returns-clause-value : goal.returns-clause-value
returns-clause-value c = search rules

pub returns-clause-small : goal.returns-clause-small
returns-clause-small c = subst (λ v. IsBelow v (2 ^ 28)) (sym (returns-clause-value c)) (cutoff_small _ _ _ c.args.self.now.limits)
