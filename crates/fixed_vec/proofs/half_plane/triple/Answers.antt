use Rattle.std.proofs.Common.{◌≡◌, [], ◌∷◌, ◌∙◌, ◌+ℤ◌, ◌-ℤ◌}
use Rattle.std.specs.Int.{w128}
use Rattle.exact_algebra.proofs.Machine.{fits, computed, reads}
use Rattle.fixed_vec.specs.HalfPlane.{determinant}
use Rattle.fixed_vec.proofs.PlaneLaws.{determinant_by_offsets}
use Rattle.fixed_vec.proofs.Sizes.{part_limits}
use Rattle.fixed_vec.proofs.half_plane.triple.Goals as goal

pub overflow_add-result : goal.overflow_add-result
overflow_add-result c =
    fits (c.part.result ∷ c.part-2.result ∷ c.part-3.result ∷ []) part_limits w128 (c.part.ensures.size, (c.part-2.ensures.size, (c.part-3.ensures.size, tt))) (search reads depth 40 fits 20000) tt

pub returns : goal.returns
returns c =
    let value : c.part.result -ℤ c.part-2.result +ℤ c.part-3.result ≡ determinant c.args.a.now c.args.b.now c.args.c.now =
    simp (c.part.ensures.value, c.part-2.ensures.value, c.part-3.ensures.value) (determinant_by_offsets c.args.a.now c.args.b.now c.args.c.now)
    in
    computed (c.part.result ∷ c.part-2.result ∷ c.part-3.result ∷ []) part_limits (c.part.ensures.size, (c.part-2.ensures.size, (c.part-3.ensures.size, tt))) (search reads depth 40 fits 20000) tt ∙ value
