use Rattle.std.specs.Int.{w128}
use Rattle.std.proofs.Common.{[], ◌∷◌, ℕ, ◌^◌, List, ℤ}
use Rattle.exact_algebra.proofs.Machine.{Within, fits, computed, reads}
use Rattle.fixed_vec.proofs.Sizes.{cross_size}
use Rattle.fixed_vec.specs.HalfPlane.{Plane}
use Rattle.fixed_vec.specs.Vector.{cross}
use Rattle.planar_program.specs.Certificate.{FitsParty}
use Rattle.planar_program.proofs.certificate.weighed_give.Goals as goal

-- what the half-planes give, and the slopes that weigh it
abbrev factors : Plane → Plane → Plane → ℤ → ℤ → ℤ → List ℤ
factors a b d i j k = i ∷ j ∷ k ∷ cross b.n d.n ∷ cross d.n a.n ∷ cross a.n b.n ∷ []

abbrev limits : List ℕ
limits = 2 ^ 32 ∷ 2 ^ 32 ∷ 2 ^ 32 ∷ 2 ^ 65 ∷ 2 ^ 65 ∷ 2 ^ 65 ∷ []

within : (a b d : Plane) (i j k : ℤ) → FitsParty a i → FitsParty b j → FitsParty d k → Within (factors a b d i j k) limits
within a b d i j k f g h =
    (f.small, (g.small, (h.small, (cross_size b d g.bounds h.bounds, (cross_size d a h.bounds f.bounds, (cross_size a b f.bounds g.bounds, tt))))))

pub overflow_mul-result : goal.overflow_mul-result
overflow_mul-result c =
    simp (c.slope.ensures)
    (fits (factors c.args.a.now.plane c.args.b.now.plane c.args.c.now.plane c.args.a.now.give c.args.b.now.give c.args.c.now.give) limits w128 (within _ _ _ _ _ _ c.requires.a c.requires.b c.requires.c) (search reads depth 40 fits 20000) tt)

pub overflow_mul-result-2 : goal.overflow_mul-result-2
overflow_mul-result-2 c =
    simp (c.slope-2.ensures)
    (fits (factors c.args.a.now.plane c.args.b.now.plane c.args.c.now.plane c.args.a.now.give c.args.b.now.give c.args.c.now.give) limits w128 (within _ _ _ _ _ _ c.requires.a c.requires.b c.requires.c) (search reads depth 40 fits 20000) tt)

pub overflow_add-result : goal.overflow_add-result
overflow_add-result c =
    simp (c.slope.ensures, c.slope-2.ensures)
    (fits (factors c.args.a.now.plane c.args.b.now.plane c.args.c.now.plane c.args.a.now.give c.args.b.now.give c.args.c.now.give) limits w128 (within _ _ _ _ _ _ c.requires.a c.requires.b c.requires.c) (search reads depth 40 fits 20000) tt)

pub overflow_mul-result-3 : goal.overflow_mul-result-3
overflow_mul-result-3 c =
    simp (c.slope-3.ensures)
    (fits (factors c.args.a.now.plane c.args.b.now.plane c.args.c.now.plane c.args.a.now.give c.args.b.now.give c.args.c.now.give) limits w128 (within _ _ _ _ _ _ c.requires.a c.requires.b c.requires.c) (search reads depth 40 fits 20000) tt)

pub overflow_add-result-2 : goal.overflow_add-result-2
overflow_add-result-2 c =
    simp (c.slope.ensures, c.slope-2.ensures, c.slope-3.ensures)
    (fits (factors c.args.a.now.plane c.args.b.now.plane c.args.c.now.plane c.args.a.now.give c.args.b.now.give c.args.c.now.give) limits w128 (within _ _ _ _ _ _ c.requires.a c.requires.b c.requires.c) (search reads depth 40 fits 20000) tt)

pub returns : goal.returns
returns c =
    simp (c.slope.ensures, c.slope-2.ensures, c.slope-3.ensures)
    (computed (factors c.args.a.now.plane c.args.b.now.plane c.args.c.now.plane c.args.a.now.give c.args.b.now.give c.args.c.now.give) limits (within _ _ _ _ _ _ c.requires.a c.requires.b c.requires.c) (search reads depth 40 fits 20000) tt)
