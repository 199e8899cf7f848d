use Rattle.std.proofs.Common.{◌+ℤ◌, ◌∙◌, ap, arith, w64, FitsSigned, to_z-of_z}
use Rattle.std.proofs.lemmas.Int.{ints}
use Rattle.fixed_vec.specs.Vector.{dot}
use Rattle.pair_plane.proofs.share.lower_offset.Goals as goal

pub returns : goal.returns
returns c =
    let d = c.dot.ensures.small in
    let h = c.lower_part.ensures.small in
    let e : FitsSigned w64 c.dot.result = omega (arith, ints) in
    let f : FitsSigned w64 c.lower_part.result = omega (arith, ints) in
    let g : FitsSigned w64 (c.dot.result +ℤ c.lower_part.result) = omega (arith, ints) in
    let along = c.dot.ensures.value ∙ ap (λ n. dot n c.args.pair.now.low.vel) (c.normal.ensures.value ∙ ap (λ plane. plane.n) c.requires) in
    simp to_z-of_z (λ i. along i +ℤ c.lower_part.ensures.value i)
