use Rattle.std.proofs.Common.{◌^◌, ◌+◌, ◌*ℤ◌, [], ◌∷◌, ◌<◌, ◌≤◌, ◌∙◌, sym, subst, arith, w64, unsigned_abs, mul-le-mul}
use Rattle.std.proofs.lemmas.Int.{ints}
use Rattle.exact_algebra.proofs.Machine.{fits, computed, reads}
use Rattle.fixed_vec.specs.HalfPlane.{whole_length}
use Rattle.pair_plane.proofs.relative.radius_times_length.Goals as goal

pub overflow_mul-result : goal.overflow_mul-result
overflow_mul-result c =
    fits (c.combined_radius.result ∷ c.length.result ∷ []) (2 ^ 16 ∷ 2 ^ 30 ∷ []) w64
    (c.combined_radius.ensures.small, (omega arith, tt)) (search reads depth 40 fits 20000) tt

pub returns-clause-value : goal.returns-clause-value
returns-clause-value c =
    computed (c.combined_radius.result ∷ c.length.result ∷ []) (2 ^ 16 ∷ 2 ^ 30 ∷ [])
    (c.combined_radius.ensures.small, (omega arith, tt)) (search reads depth 40 fits 20000) tt
    ∙ (λ i. c.combined_radius.ensures.value i *ℤ c.length.ensures.value i)

pub returns-clause-small : goal.returns-clause-small
returns-clause-small c =
    let r : c.args.pair.now.low.radius + c.args.pair.now.high.radius ≤ 2 ^ 16 = omega (arith, ints, c.combined_radius.ensures.value, c.combined_radius.ensures.small) in
    let l : whole_length c.args.n ≤ 2 ^ 30 = omega (arith, ints, c.length.ensures.value, c.length.ensures.small) in
    subst (λ z. unsigned_abs z < 2 ^ 47) (sym (returns-clause-value c)) (omega (arith, mul-le-mul r l))
