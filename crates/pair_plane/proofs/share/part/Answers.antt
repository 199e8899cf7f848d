use Rattle.std.proofs.Common.{◌≡◌, ◌∙◌, ◌^◌, ◌<◌, ◌+◌, ℕ, [], ◌∷◌, sym, ap, arith, rules, ℤ, pos, ◌*ℤ◌, unsigned_abs, w64, FitsSigned, to_z-of_z}
use Rattle.std.proofs.lemmas.Int.{ints}
use Rattle.exact_algebra.specs.Numbers.{ceil}
use Rattle.exact_algebra.proofs.Machine.{bounded, reads}
use Rattle.crowd_data.specs.Limits.{IsWeight}
use Rattle.crowd_data.specs.Pairs.{part_of}
use Rattle.pair_plane.proofs.Parts.{part_abs, part_of-same}
use Rattle.pair_plane.proofs.share.part.Goals as goal

pub returns-then-weights-clause-value : goal.returns-then-weights-clause-value
returns-then-weights-clause-value c =
    let f : FitsSigned w64 c.div_up.result = search rules in
    let g : FitsSigned w64 c.args.whole = search rules in
    let e : c.div_up.result ≡ ceil c.args.whole (pos 2) = simp to_z-of_z at c.div_up.ensures in
    simp to_z-of_z
    (e ∙ sym (part_of-same c.args.whole c.args.weights.now.low c.args.weights.now.low_limits.0) ∙ ap (λ b. part_of c.args.whole c.args.weights.now.low b) c.if-weights.true)

-- 50 bits and 5 make less than 63
product_fits : (g : ℤ) (a : ℕ) → unsigned_abs g < 2 ^ 50 → IsWeight a → FitsSigned w64 (g *ℤ pos a)
product_fits g a h weight =
    let b : unsigned_abs (g *ℤ pos a) < 2 ^ 60 = bounded (g ∷ pos a ∷ []) (2 ^ 50 ∷ 2 ^ 5 ∷ []) (2 ^ 60) (g *ℤ pos a) (omega arith, (omega (arith, weight.1), tt)) (search reads depth 40 fits 20000) tt in
    omega (arith, ints)

pub returns-else-weights-clause-value : goal.returns-else-weights-clause-value
returns-else-weights-clause-value c =
    let low = c.args.weights.now.low_limits in
    let high = c.args.weights.now.high_limits in
    let f : FitsSigned w64 c.div_up-else-weights.result = search rules in
    let g : FitsSigned w64 c.args.whole = search rules in
    let h : FitsSigned w64 (pos c.args.weights.now.low) = omega (arith, ints, low.1) in
    let i : FitsSigned w64 (pos (c.args.weights.now.low + c.args.weights.now.high)) = omega (arith, ints, low.1, high.1) in
    let j = product_fits c.args.whole c.args.weights.now.low c.requires low in
    let e : c.div_up-else-weights.result ≡ part_of c.args.whole c.args.weights.now.low c.args.weights.now.high =
    simp (c.from.ensures, c.from-else-weights.ensures, to_z-of_z) at c.div_up-else-weights.ensures in
    simp to_z-of_z e

pub returns-else-weights-clause-small : goal.returns-else-weights-clause-small
returns-else-weights-clause-small c =
    rw (returns-else-weights-clause-value c)
    (let p = part_abs c.args.whole c.args.weights.now.low c.args.weights.now.high c.args.weights.now.high_limits.0 in omega (arith, p, c.requires))
