use Rattle.std.proofs.Common.{◌^◌, ◌≤◌, List, [], ◌∷◌, ℕ, arith, ℤ, pos, ◌*ℤ◌, w64}
use Rattle.std.proofs.lemmas.Int.{ints}
use Rattle.crowd_data.specs.declared.limits.TheConstants.{GREATEST_SPEED}
use Rattle.exact_algebra.proofs.Machine.{Within, fits, bounded, computed, reads}
use Rattle.fixed_vec.specs.declared.vector.V2.{V2}
use Rattle.fixed_vec.specs.Vector.{dot, IsBelow}
use Rattle.hard_plane.proofs.ring.scaled_offset.Goals as goal

abbrev inputs : ℕ → V2 → V2 → List ℤ
inputs k n m = pos k ∷ n.x ∷ n.y ∷ m.x ∷ m.y ∷ []

abbrev limits : List ℕ
limits = 2 ^ 14 ∷ 2 ^ 12 ∷ 2 ^ 12 ∷ 2 ^ 12 ∷ 2 ^ 12 ∷ []

within : (k : ℕ) (n m : V2) → k ≤ GREATEST_SPEED → IsBelow n (2 ^ 12) → IsBelow m (2 ^ 12) → Within (inputs k n m) limits
within k n m h i j = (omega (arith, ints), (omega (arith, i.0), (omega (arith, i.1), (omega (arith, j.0), (omega (arith, j.1), tt)))))

pub overflow_add-result : goal.overflow_add-result
overflow_add-result c =
    fits (inputs c.args.k c.args.normal c.args.m) limits w64 (within c.args.k c.args.normal c.args.m c.requires.factor c.requires.normal_small c.requires.point_small) (search reads depth 40 fits 20000) tt

pub overflow_mul-result-3 : goal.overflow_mul-result-3
overflow_mul-result-3 c =
    rw c.from.ensures
    (fits (inputs c.args.k c.args.normal c.args.m) limits w64 (within c.args.k c.args.normal c.args.m c.requires.factor c.requires.normal_small c.requires.point_small) (search reads depth 40 fits 20000) tt)

pub returns-clause-value : goal.returns-clause-value
returns-clause-value c =
    rw c.from.ensures
    (computed (inputs c.args.k c.args.normal c.args.m) limits (within c.args.k c.args.normal c.args.m c.requires.factor c.requires.normal_small c.requires.point_small) (search reads depth 40 fits 20000) tt)

pub returns-clause-small : goal.returns-clause-small
returns-clause-small c =
    rw (returns-clause-value c)
    (bounded (inputs c.args.k c.args.normal c.args.m) limits (2 ^ 40) (pos c.args.k *ℤ dot c.args.normal c.args.m) (within c.args.k c.args.normal c.args.m c.requires.factor c.requires.normal_small c.requires.point_small) (search reads depth 40 fits 20000) tt)
