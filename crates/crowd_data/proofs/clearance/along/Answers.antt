use Rattle.std.proofs.Common.{◌^◌, [], ◌∷◌, arith, w64}
use Rattle.exact_algebra.proofs.Machine.{fits, computed, reads}
use Rattle.crowd_data.proofs.clearance.along.Goals as goal

pub overflow_add-result : goal.overflow_add-result
overflow_add-result c =
    fits (c.args.p.x ∷ c.args.p.y ∷ c.args.d.x ∷ c.args.d.y ∷ []) (2 ^ 32 ∷ 2 ^ 32 ∷ 2 ^ 24 ∷ 2 ^ 24 ∷ []) w64
    (omega arith, (omega arith, (omega arith, (omega arith, tt)))) (search reads depth 40 fits 20000) tt

pub returns : goal.returns
returns c =
    computed (c.args.p.x ∷ c.args.p.y ∷ c.args.d.x ∷ c.args.d.y ∷ []) (2 ^ 32 ∷ 2 ^ 32 ∷ 2 ^ 24 ∷ 2 ^ 24 ∷ [])
    (omega arith, (omega arith, (omega arith, (omega arith, tt)))) (search reads depth 40 fits 20000) tt
