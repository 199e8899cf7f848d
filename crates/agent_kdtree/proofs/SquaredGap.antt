-- The squared distance, by the sizes of two differences.
use Rattle.std.proofs.Common.{◌≡◌, ◌^◌, ◌+◌, ◌*◌, ◌≤◌, ℕ, refl, arith, ℤ, ◌+ℤ◌, ◌-ℤ◌, ◌*ℤ◌, unsigned_abs, FitsSigned, to_z, of_z, w64, to_z-of_z, mul-le-mul}
use Rattle.std.proofs.lemmas.Int.{ints}
use Rattle.exact_algebra.proofs.Sizes.{square_abs}
use Rattle.fixed_vec.specs.declared.vector.V2.{V2}
use Rattle.fixed_vec.specs.Vector.{IsBelow}
use Rattle.crowd_data.specs.Neighbours.{squared_gap}

-- it is the sum of the squares of the sizes
pub squared_gap-sizes : (a b : V2) (m n : ℕ) → m ≡ unsigned_abs (a.x -ℤ b.x) → n ≡ unsigned_abs (a.y -ℤ b.y) → squared_gap a b ≡ m * m + n * n
squared_gap-sizes a b m n e f = by (a.x -ℤ b.x) (a.y -ℤ b.y) e f
  where
    by : (x y : ℤ) → m ≡ unsigned_abs x → n ≡ unsigned_abs y → unsigned_abs (x *ℤ x +ℤ y *ℤ y) ≡ m * m + n * n
    by x y e f = rw (e, f, square_abs x, square_abs y) refl

-- the sizes as the code has them
pub squared_gap-coded : (a b : V2) (m n : ℕ) → IsBelow a (2 ^ 31) → IsBelow b (2 ^ 31) → m ≡ unsigned_abs (to_z w64 (of_z w64 a.x) -ℤ to_z w64 (of_z w64 b.x))
    → n ≡ unsigned_abs (to_z w64 (of_z w64 a.y) -ℤ to_z w64 (of_z w64 b.y)) → squared_gap a b ≡ m * m + n * n
squared_gap-coded a b m n ha hb e f =
    let ax : FitsSigned w64 a.x = omega (arith, ints, ha) in
    let ay : FitsSigned w64 a.y = omega (arith, ints, ha) in
    let bx : FitsSigned w64 b.x = omega (arith, ints, hb) in
    let by : FitsSigned w64 b.y = omega (arith, ints, hb) in
    squared_gap-sizes a b m n (simp to_z-of_z at e) (simp to_z-of_z at f)

-- it is no less where neither size is
pub squared_gap-least : (a b : V2) (m n : ℕ) → m ≤ unsigned_abs (a.x -ℤ b.x) → n ≤ unsigned_abs (a.y -ℤ b.y) → m * m + n * n ≤ squared_gap a b
squared_gap-least a b m n h k =
    rw (squared_gap-sizes a b (unsigned_abs (a.x -ℤ b.x)) (unsigned_abs (a.y -ℤ b.y)) refl refl) (omega (arith, mul-le-mul h h, mul-le-mul k k))
