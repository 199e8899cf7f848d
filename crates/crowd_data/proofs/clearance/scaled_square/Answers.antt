use Rattle.std.proofs.Common.{◌*◌, ◌^◌, ◌≤◌, List, [], ◌∷◌, ℕ, ℤ, arith, pos, mul-le-mul}
use Rattle.std.specs.Int.{w128}
use Rattle.std.proofs.lemmas.Int.{ints}
use Rattle.exact_algebra.proofs.Machine.{Within, fits, computed, reads}
use Rattle.fixed_vec.specs.declared.vector.V2.{V2}
use Rattle.fixed_vec.specs.Vector.{IsBelow}
use Rattle.crowd_data.proofs.clearance.scaled_square.Goals as goal

abbrev inputs : ℕ → V2 → List ℤ
inputs r d = pos (r * r) ∷ d.x ∷ d.y ∷ []

abbrev limits : List ℕ
limits = 2 ^ 64 ∷ 2 ^ 24 ∷ 2 ^ 24 ∷ []

within : (r : ℕ) (d : V2) → r ≤ 2 ^ 32 → IsBelow d (2 ^ 24) → Within (inputs r d) limits
within r d h k =
    let m : r * r ≤ (2 ^ 32) * (2 ^ 32) = mul-le-mul h h in
    (omega (arith, ints), (omega (arith, k.0), (omega (arith, k.1), tt)))

pub overflow_mul-result : goal.overflow_mul-result
overflow_mul-result c =
    rw (c.square_of.ensures, c.dot.ensures)
    (fits (inputs c.args.r c.args.d) limits w128 (within c.args.r c.args.d (omega arith) c.requires) (search reads depth 40 fits 20000) tt)

pub returns : goal.returns
returns c =
    rw (c.square_of.ensures, c.dot.ensures)
    (computed (inputs c.args.r c.args.d) limits (within c.args.r c.args.d (omega arith) c.requires) (search reads depth 40 fits 20000) tt)
