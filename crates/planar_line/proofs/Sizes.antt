-- How large the numbers of half-planes, points and preferences are.
use Rattle.std.proofs.Common.{◌≡◌, ℕ, ◌-◌, ◌*◌, ◌^◌, ◌<◌, ◌≤◌, List, [], ◌∷◌, subst, sym, arith, ℤ, pos, ◌*ℤ◌, ◌<ℤ◌, unsigned_abs}
use Rattle.std.proofs.lemmas.Int.{ints}
use Rattle.exact_algebra.proofs.Order.{square_nonneg}
use Rattle.exact_algebra.proofs.Machine.{Within, reads, bounded}
use Rattle.exact_algebra.proofs.Sizes.{root_lt, square_abs}
use Rattle.fixed_vec.specs.declared.vector.V2.{V2}
use Rattle.fixed_vec.specs.Vector.{cross, square}
use Rattle.fixed_vec.specs.HalfPlane.{Plane, FitsPlane}
use Rattle.fixed_vec.specs.Point.{Rational, FitsPoint}
use Rattle.planar_line.specs.declared.point64.Point64.{Point64}
use Rattle.planar_line.specs.Border.{IsPreference, crossing_of, foot_of, greatest_preference}
use Rattle.planar_line.specs.Point64.{Take64Bits}

coordinate_below : (z w : ℤ) → (z *ℤ z) <ℤ pos (2 ^ 64) → unsigned_abs z ≤ 2 ^ 32 - 1
coordinate_below z w h =
    let e = square_abs z in
    let p : unsigned_abs z * unsigned_abs z < (2 ^ 32) * (2 ^ 32) = omega (arith, ints) in
    let r : unsigned_abs z < 2 ^ 32 = root_lt (unsigned_abs z) (2 ^ 32) p in
    omega arith

pub normal_below : (n : V2) → square n <ℤ pos (2 ^ 64) → (unsigned_abs n.x ≤ 2 ^ 32 - 1) × (unsigned_abs n.y ≤ 2 ^ 32 - 1)
normal_below n h =
    let p = square_nonneg n.x in let q = square_nonneg n.y in
    (coordinate_below n.x n.y (omega (arith, ints)), coordinate_below n.y n.x (omega (arith, ints)))

pub normal_small : (plane : Plane) → FitsPlane plane → (unsigned_abs plane.n.x < 2 ^ 40) × (unsigned_abs plane.n.y < 2 ^ 40)
normal_small plane h = let s = normal_below plane.n h.normal in (omega arith, omega arith)

-- the greatest size of a normal's coordinate
abbrev pub side : ℕ
side = 2 ^ 32 - 1

-- ---- two half-planes
abbrev pub pair : Plane → Plane → List ℤ
pair a b = a.n.x ∷ a.n.y ∷ a.c ∷ b.n.x ∷ b.n.y ∷ b.c ∷ []

abbrev pub pair_limits : List ℕ
pair_limits = side ∷ side ∷ 2 ^ 53 ∷ side ∷ side ∷ 2 ^ 53 ∷ []

pub pair_within : (a b : Plane) → FitsPlane a → FitsPlane b → Within (pair a b) pair_limits
pair_within a b h k =
    let p = normal_below a.n h.normal in let q = normal_below b.n k.normal in
    (p.0, (p.1, (omega (arith, h.offset), (q.0, (q.1, (omega (arith, k.offset), tt))))))

-- ---- a half-plane, a point and a preference
abbrev pub sight : Plane → Rational → V2 → List ℤ
sight plane p v = plane.n.x ∷ plane.n.y ∷ plane.c ∷ p.x ∷ p.y ∷ p.q ∷ v.x ∷ v.y ∷ []

abbrev pub sight_limits : List ℕ
sight_limits = side ∷ side ∷ 2 ^ 53 ∷ 2 ^ 87 ∷ 2 ^ 87 ∷ 2 ^ 65 ∷ greatest_preference ∷ greatest_preference ∷ []

pub sight_within : (plane : Plane) (p : Rational) (v : V2) → FitsPlane plane → FitsPoint p → IsPreference v → Within (sight plane p v) sight_limits
sight_within plane p v h k l =
    let s = normal_below plane.n h.normal in
    (s.0, (s.1, (omega (arith, h.offset), (omega (arith, k.across), (omega (arith, k.along), (omega (arith, ints), (l.across, (l.along, tt))))))))

-- ---- a half-plane and a preference
abbrev pub outlook : Plane → V2 → List ℤ
outlook plane v = plane.n.x ∷ plane.n.y ∷ plane.c ∷ v.x ∷ v.y ∷ []

abbrev pub outlook_limits : List ℕ
outlook_limits = side ∷ side ∷ 2 ^ 53 ∷ greatest_preference ∷ greatest_preference ∷ []

pub outlook_within : (plane : Plane) (v : V2) → FitsPlane plane → IsPreference v → Within (outlook plane v) outlook_limits
outlook_within plane v h l = let s = normal_below plane.n h.normal in (s.0, (s.1, (omega (arith, h.offset), (l.across, (l.along, tt)))))

-- ---- a half-plane and a point whose parts take 64 bits
abbrev half : ℕ
half = 2 ^ 63 - 1

abbrev pub look : Plane → Point64 → List ℤ
look plane at = plane.n.x ∷ plane.n.y ∷ plane.c ∷ at.x ∷ at.y ∷ at.q ∷ []

abbrev pub look_limits : List ℕ
look_limits = side ∷ side ∷ 2 ^ 53 ∷ half ∷ half ∷ half ∷ []

pub look_within : (plane : Plane) (at : Point64) → FitsPlane plane → Take64Bits at.x at.y at.q → Within (look plane at) look_limits
look_within plane at h k =
    let s = normal_below plane.n h.normal in
    (s.0, (s.1, (omega (arith, h.offset), (omega (arith, k.across), (omega (arith, k.along), (omega (arith, k.divisor), tt))))))

-- ---- the points that are made of them
below : (z : ℤ) (b : ℕ) → unsigned_abs z < b → z <ℤ pos b
below z b h = omega (arith, ints)

pub crossing-fits : (a b : Plane) → FitsPlane a → FitsPlane b → pos 0 <ℤ cross a.n b.n → FitsPoint (crossing_of a b)
crossing-fits a b h k rises =
    let w = pair_within a b h k in
    record {
      positive = rises;
      divisor = below _ (2 ^ 65) (bounded (pair a b) pair_limits (2 ^ 65) (cross a.n b.n) w (search reads depth 40 fits 20000) tt);
      across = bounded (pair a b) pair_limits (2 ^ 87) (crossing_of a b).x w (search reads depth 40 fits 20000) tt;
      along = bounded (pair a b) pair_limits (2 ^ 87) (crossing_of a b).y w (search reads depth 40 fits 20000) tt;
    }

pub foot-fits : (plane : Plane) (v : V2) → FitsPlane plane → IsPreference v → FitsPoint (foot_of plane v)
foot-fits plane v h l =
    let w = outlook_within plane v h l in
    record {
      positive = h.nonzero;
      divisor = below _ (2 ^ 65) (bounded (outlook plane v) outlook_limits (2 ^ 65) (square plane.n) w (search reads depth 40 fits 20000) tt);
      across = bounded (outlook plane v) outlook_limits (2 ^ 87) (foot_of plane v).x w (search reads depth 40 fits 20000) tt;
      along = bounded (outlook plane v) outlook_limits (2 ^ 87) (foot_of plane v).y w (search reads depth 40 fits 20000) tt;
    }

-- a point known by its numbers
pub fits_by : (x y q : ℤ) (p : Rational) → x ≡ p.x → y ≡ p.y → q ≡ p.q → FitsPoint p → FitsPoint (record { x = x; y = y; q = q })
fits_by x y q p e f g h =
    let same : p ≡ record { x = x; y = y; q = q } = λ i. record { x = sym e i; y = sym f i; q = sym g i } in
    subst FitsPoint same h

pub point_by : (x y q : ℤ) (p r : Rational) → r ≡ record { x = x; y = y; q = q } → x ≡ p.x → y ≡ p.y → q ≡ p.q → r ≡ p
point_by x y q p r is e f g =
    let same : record { x = x; y = y; q = q } ≡ p = λ i. record { x = e i; y = f i; q = g i } in
    cc
