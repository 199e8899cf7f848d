use Rattle.std.proofs.Common.{◌^◌, List, [], ◌∷◌, ℕ, ℤ, arith, w64}
use Rattle.std.specs.Int.{w128}
use Rattle.exact_algebra.proofs.Machine.{Within, fits, computed, reads}
use Rattle.fixed_vec.specs.declared.vector.V2.{V2}
use Rattle.fixed_vec.specs.Vector.{IsBelow}
use Rattle.crowd_data.proofs.clearance.cross_square.Goals as goal

abbrev inputs : V2 → V2 → List ℤ
inputs p d = p.x ∷ p.y ∷ d.x ∷ d.y ∷ []

abbrev limits : List ℕ
limits = 2 ^ 32 ∷ 2 ^ 32 ∷ 2 ^ 24 ∷ 2 ^ 24 ∷ []

within : (p d : V2) → IsBelow p (2 ^ 32) → IsBelow d (2 ^ 24) → Within (inputs p d) limits
within p d h k = (omega (arith, h.0), (omega (arith, h.1), (omega (arith, k.0), (omega (arith, k.1), tt))))

pub overflow_sub-turn : goal.overflow_sub-turn
overflow_sub-turn c = fits (inputs c.args.p c.args.d) limits w64 (within c.args.p c.args.d c.requires.p_small c.requires.d_small) (search reads depth 40 fits 20000) tt

pub overflow_mul-result : goal.overflow_mul-result
overflow_mul-result c = fits (inputs c.args.p c.args.d) limits w128 (within c.args.p c.args.d c.requires.p_small c.requires.d_small) (search reads depth 40 fits 20000) tt

pub returns : goal.returns
returns c = computed (inputs c.args.p c.args.d) limits (within c.args.p c.args.d c.requires.p_small c.requires.d_small) (search reads depth 40 fits 20000) tt
