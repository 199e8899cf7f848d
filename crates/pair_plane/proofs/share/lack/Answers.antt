use Rattle.std.proofs.Common.{◌≡◌, ◌<◌, ◌^◌, ◌∙◌, ap, sym, subst, arith, ◌-ℤ◌, unsigned_abs, w64, FitsSigned, to_z-of_z}
use Rattle.std.proofs.lemmas.Int.{ints}
use Rattle.std.specs.Int.{w128}
use Rattle.fixed_vec.specs.Vector.{dot}
use Rattle.crowd_data.specs.Pairs.{lack}
use Rattle.pair_plane.proofs.Shares.{lack_small}
use Rattle.pair_plane.proofs.share.lack.Goals as goal
use Rattle.pair_plane.proofs.share.lack.Goals.{After-dot}

lack_is : (c : After-dot) → c.c.result -ℤ c.dot.result ≡ lack c.args.pair.now.low c.args.pair.now.high c.args.pair.now.tau
lack_is c =
    let offset = c.c.ensures.value ∙ ap (λ plane. plane.c) c.requires in
    let normal = c.normal.ensures.value ∙ ap (λ plane. plane.n) c.requires in
    let along = c.dot.ensures.value ∙ (λ i. dot (normal i) (c.relative_velocity.ensures.value i)) in
    λ i. offset i -ℤ along i

offset_small : (c : After-dot) → unsigned_abs c.c.result < 2 ^ 53
offset_small c = subst (λ z. unsigned_abs z < 2 ^ 53) (sym c.c.ensures.value) c.c.ensures.fits.offset

pub overflow_sub-result : goal.overflow_sub-result
overflow_sub-result c = let s = offset_small c in let d = c.dot.ensures.small in omega (arith, ints)

pub returns-clause-value : goal.returns-clause-value
returns-clause-value c =
    let s = offset_small c in
    let d = c.dot.ensures.small in
    let e : FitsSigned w64 c.c.result = omega (arith, ints) in
    let f : FitsSigned w128 c.c.result = omega (arith, ints) in
    let g : FitsSigned w64 c.dot.result = omega (arith, ints) in
    let h : FitsSigned w64 (c.c.result -ℤ c.dot.result) = omega (arith, ints) in
    simp to_z-of_z (lack_is c)

pub returns-clause-small : goal.returns-clause-small
returns-clause-small c = subst (λ z. unsigned_abs z < 2 ^ 50) (sym (returns-clause-value c)) (lack_small _ _ _ c.args.pair.now.limits)
