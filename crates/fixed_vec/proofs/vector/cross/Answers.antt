use Rattle.std.proofs.Common.{◌^◌, [], ◌∷◌, arith}
use Rattle.std.specs.Int.{w128}
use Rattle.exact_algebra.proofs.Machine.{fits, computed, reads}
use Rattle.fixed_vec.proofs.vector.cross.Goals as goal

pub overflow_sub-result : goal.overflow_sub-result
overflow_sub-result c =
    fits (c.args.a.x ∷ c.args.a.y ∷ c.args.b.x ∷ c.args.b.y ∷ []) (2 ^ 40 ∷ 2 ^ 40 ∷ 2 ^ 40 ∷ 2 ^ 40 ∷ []) w128
    (omega arith, (omega arith, (omega arith, (omega arith, tt)))) (search reads depth 40 fits 20000) tt

pub returns : goal.returns
returns c =
    computed (c.args.a.x ∷ c.args.a.y ∷ c.args.b.x ∷ c.args.b.y ∷ []) (2 ^ 40 ∷ 2 ^ 40 ∷ 2 ^ 40 ∷ 2 ^ 40 ∷ [])
    (omega arith, (omega arith, (omega arith, (omega arith, tt)))) (search reads depth 40 fits 20000) tt
