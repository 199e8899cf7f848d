-- How large the numbers of a plane and a point are.
use Rattle.std.proofs.Common.{ℕ, ◌*ℤ◌, ◌*◌, ◌^◌, ◌<◌, ◌≤◌, List, [], ◌∷◌, arith, ℤ, pos, ◌<ℤ◌, unsigned_abs}
use Rattle.std.proofs.lemmas.Int.{ints}
use Rattle.exact_algebra.proofs.Machine.{Within, abs-product}
use Rattle.exact_algebra.proofs.Sizes.{root_lt, square_abs}
use Rattle.fixed_vec.specs.declared.vector.V2.{V2}
use Rattle.fixed_vec.specs.Vector.{dot, cross}
use Rattle.fixed_vec.specs.HalfPlane.{Plane, FitsPlane}
use Rattle.fixed_vec.specs.Point.{Rational, FitsPoint}

pub normal_small : (n : V2) → dot n n <ℤ pos (2 ^ 64) → (unsigned_abs n.x ≤ 2 ^ 32) × (unsigned_abs n.y ≤ 2 ^ 32)
normal_small n h =
    let e = square_abs n.x in let f = square_abs n.y in
    let p : unsigned_abs n.x * unsigned_abs n.x < (2 ^ 32) * (2 ^ 32) = omega (arith, ints) in
    let q : unsigned_abs n.y * unsigned_abs n.y < (2 ^ 32) * (2 ^ 32) = omega (arith, ints) in
    let r : unsigned_abs n.x < 2 ^ 32 = root_lt (unsigned_abs n.x) (2 ^ 32) p in
    let s : unsigned_abs n.y < 2 ^ 32 = root_lt (unsigned_abs n.y) (2 ^ 32) q in
    (omega arith, omega arith)

abbrev pub inputs : Plane → Rational → List ℤ
inputs plane p = plane.n.x ∷ plane.n.y ∷ plane.c ∷ p.x ∷ p.y ∷ p.q ∷ []

abbrev pub limits : List ℕ
limits = 2 ^ 32 ∷ 2 ^ 32 ∷ 2 ^ 53 ∷ 2 ^ 87 ∷ 2 ^ 87 ∷ 2 ^ 65 ∷ []

pub within : (plane : Plane) (p : Rational) → FitsPlane plane → FitsPoint p → Within (inputs plane p) limits
within plane p h k =
    let s = normal_small plane.n h.normal in
    (s.0, (s.1, (omega (arith, h.offset), (omega (arith, k.across), (omega (arith, k.along), (omega (arith, ints), tt))))))

abbrev pub factors : Plane → Plane → Plane → List ℤ
factors a b d = a.c ∷ cross b.n d.n ∷ []

abbrev pub factor_limits : List ℕ
factor_limits = 2 ^ 53 ∷ 2 ^ 65 ∷ []

pub cross_size : (b d : Plane) → FitsPlane b → FitsPlane d → unsigned_abs (cross b.n d.n) ≤ 2 ^ 65
cross_size b d h k =
    let p = normal_small b.n h.normal in let q = normal_small d.n k.normal in
    let r = abs-product b.n.x d.n.y (2 ^ 32) (2 ^ 32) p.0 q.1 in
    let s = abs-product b.n.y d.n.x (2 ^ 32) (2 ^ 32) p.1 q.0 in
    omega (arith, ints)

pub factors_within : (a b d : Plane) → FitsPlane a → FitsPlane b → FitsPlane d → Within (factors a b d) factor_limits
factors_within a b d h k l = (omega (arith, h.offset), (cross_size b d k l, tt))

pub part_size : (a b d : Plane) → FitsPlane a → FitsPlane b → FitsPlane d → unsigned_abs (a.c *ℤ cross b.n d.n) ≤ 2 ^ 118
part_size a b d h k l = abs-product a.c (cross b.n d.n) (2 ^ 53) (2 ^ 65) (omega (arith, h.offset)) (cross_size b d k l)

abbrev pub part_limits : List ℕ
part_limits = 2 ^ 118 ∷ 2 ^ 118 ∷ 2 ^ 118 ∷ []
