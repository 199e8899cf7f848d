use Rattle.std.proofs.Common.{◌≡◌, neg_ℤ, ◌+ℤ◌, ◌-ℤ◌, ◌∙◌, ap, arith, w64, FitsSigned, to_z-of_z}
use Rattle.std.proofs.lemmas.Int.{ints}
use Rattle.fixed_vec.specs.Vector.{dot}
use Rattle.pair_plane.proofs.share.higher_offset.Goals as goal

pub overflow_sub-result-2 : goal.overflow_sub-result-2
overflow_sub-result-2 c =
    let d = c.dot.ensures.small in let h = c.lower_part.ensures.small in let l = c.lack.ensures.small in
    omega (arith, ints)

pub returns : goal.returns
returns c =
    let d = c.dot.ensures.small in
    let h = c.lower_part.ensures.small in
    let l = c.lack.ensures.small in
    let e : FitsSigned w64 c.dot.result = omega (arith, ints) in
    let f : FitsSigned w64 c.lower_part.result = omega (arith, ints) in
    let g : FitsSigned w64 c.lack.result = omega (arith, ints) in
    let i : FitsSigned w64 (c.lack.result -ℤ c.lower_part.result) = omega (arith, ints) in
    let j : FitsSigned w64 (c.lack.result -ℤ c.lower_part.result -ℤ c.dot.result) = omega (arith, ints) in
    let along = c.dot.ensures.value ∙ ap (λ n. dot n c.args.pair.now.high.vel) (c.normal.ensures.value ∙ ap (λ plane. plane.n) c.requires) in
    let turn : c.lack.result -ℤ c.lower_part.result -ℤ c.dot.result ≡ neg_ℤ c.dot.result +ℤ (c.lack.result -ℤ c.lower_part.result) = omega (arith, ints) in
    simp to_z-of_z (turn ∙ (λ k. neg_ℤ (along k) +ℤ (c.lack.ensures.value k -ℤ c.lower_part.ensures.value k)))
