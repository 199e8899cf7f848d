use Rattle.std.proofs.Common.{◌^◌, [], ◌∷◌, sym, subst, ◌<◌, unsigned_abs, w64}
use Rattle.exact_algebra.proofs.Machine.{fits, computed, bounded, reads}
use Rattle.fixed_vec.specs.Vector.{dot}
use Rattle.pair_plane.proofs.narrow.dot.Goals as goal

pub overflow_add-result : goal.overflow_add-result
overflow_add-result c =
    fits (c.args.a.x ∷ c.args.a.y ∷ c.args.b.x ∷ c.args.b.y ∷ []) (2 ^ 32 ∷ 2 ^ 32 ∷ 2 ^ 28 ∷ 2 ^ 28 ∷ []) w64
    (c.requires.a_small.0, (c.requires.a_small.1, (c.requires.b_small.0, (c.requires.b_small.1, tt)))) (search reads depth 40 fits 20000) tt

pub returns-clause-value : goal.returns-clause-value
returns-clause-value c =
    computed (c.args.a.x ∷ c.args.a.y ∷ c.args.b.x ∷ c.args.b.y ∷ []) (2 ^ 32 ∷ 2 ^ 32 ∷ 2 ^ 28 ∷ 2 ^ 28 ∷ [])
    (c.requires.a_small.0, (c.requires.a_small.1, (c.requires.b_small.0, (c.requires.b_small.1, tt)))) (search reads depth 40 fits 20000) tt

pub returns-clause-small : goal.returns-clause-small
returns-clause-small c =
    subst (λ z. unsigned_abs z < 2 ^ 62) (sym (returns-clause-value c))
    (bounded (c.args.a.x ∷ c.args.a.y ∷ c.args.b.x ∷ c.args.b.y ∷ []) (2 ^ 32 ∷ 2 ^ 32 ∷ 2 ^ 28 ∷ 2 ^ 28 ∷ []) (2 ^ 62) (dot c.args.a c.args.b)
    (c.requires.a_small.0, (c.requires.a_small.1, (c.requires.b_small.0, (c.requires.b_small.1, tt)))) (search reads depth 40 fits 20000) tt)
