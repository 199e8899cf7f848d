use Rattle.std.proofs.Common.{◌≡◌, rules, sym, subst, ◌^◌, ◌<◌, [], ◌∷◌, arith, ℤ, ◌+ℤ◌, unsigned_abs, FitsSigned, to_z-of_z}
use Rattle.std.specs.Int.{w128}
use Rattle.std.proofs.lemmas.Int.{ints}
use Rattle.exact_algebra.proofs.Machine.{bounded, reads}
use Rattle.fixed_vec.specs.declared.vector.V2.{V2}
use Rattle.fixed_vec.specs.Vector.{dot, IsBelow}
use Rattle.hard_plane.proofs.wall.overlap.Goals as goal

dot_small : (n e : V2) (z : ℤ) → IsBelow n (2 ^ 40) → IsBelow e (2 ^ 40) → z ≡ dot n e → unsigned_abs z < 2 ^ 82
dot_small n e z hn he h = subst (λ z. unsigned_abs z < 2 ^ 82) (sym h)
    (bounded (n.x ∷ n.y ∷ e.x ∷ e.y ∷ []) (2 ^ 40 ∷ 2 ^ 40 ∷ 2 ^ 40 ∷ 2 ^ 40 ∷ []) (2 ^ 82) (dot n e)
    (omega (arith, hn.0), (omega (arith, hn.1), (omega (arith, he.0), (omega (arith, he.1), tt)))) (search reads depth 40 fits 20000) tt)

sum_fits : (a b : ℤ) → unsigned_abs a < 2 ^ 82 → unsigned_abs b < 2 ^ 97 → FitsSigned w128 (a +ℤ b)
sum_fits a b h k = omega (arith, ints)

pub overflow_add-result : goal.overflow_add-result
overflow_add-result c =
    let f : FitsSigned w128 c.dot.result = search rules in
    let g : FitsSigned w128 c.lift.result = search rules in
    let d = dot_small c.args.n c.args.e c.dot.result c.requires.n_small c.requires.e_small c.dot.ensures in
    simp to_z-of_z (sum_fits c.dot.result c.lift.result d c.lift.ensures.small)

pub returns : goal.returns
returns c =
    let f : FitsSigned w128 c.dot.result = search rules in
    let g : FitsSigned w128 c.lift.result = search rules in
    let d = dot_small c.args.n c.args.e c.dot.result c.requires.n_small c.requires.e_small c.dot.ensures in
    let h : FitsSigned w128 (c.dot.result +ℤ c.lift.result) = sum_fits c.dot.result c.lift.result d c.lift.ensures.small in
    simp to_z-of_z (λ i. c.dot.ensures i +ℤ c.lift.ensures.value i)
