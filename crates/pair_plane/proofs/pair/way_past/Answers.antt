use Rattle.std.proofs.Common.{◌^◌, [], ◌∷◌, arith, w64}
use Rattle.exact_algebra.proofs.Machine.{fits, computed, reads}
use Rattle.pair_plane.proofs.pair.way_past.Goals as goal

pub overflow_sub-result : goal.overflow_sub-result
overflow_sub-result c =
    fits (c.args.horizon ∷ c.args.velocity ∷ c.args.relative_position ∷ []) (2 ^ 12 ∷ 2 ^ 15 ∷ 2 ^ 16 ∷ []) w64
    (omega arith, (omega arith, (omega arith, tt))) (search reads depth 40 fits 20000) tt

pub returns : goal.returns
returns c =
    computed (c.args.horizon ∷ c.args.velocity ∷ c.args.relative_position ∷ []) (2 ^ 12 ∷ 2 ^ 15 ∷ 2 ^ 16 ∷ [])
    (omega arith, (omega arith, (omega arith, tt))) (search reads depth 40 fits 20000) tt
