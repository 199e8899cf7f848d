-- Squared lengths of vectors.
use Rattle.std.proofs.Common.{◌≡◌, [], ◌∷◌, arith, pos, ◌≤ℤ◌, unsigned_abs}
use Rattle.std.proofs.lemmas.Int.{ints}
use Rattle.exact_algebra.proofs.Order.{square_nonneg, sum_nonneg}
use Rattle.exact_algebra.proofs.Ring.{equal, quotes}
use Rattle.fixed_vec.specs.declared.vector.V2.{V2}
use Rattle.fixed_vec.specs.Vector.{minus, opposite, square}

-- none is below zero
pub square_some : (v : V2) → pos 0 ≤ℤ square v
square_some v = sum_nonneg _ _ (square_nonneg v.x) (square_nonneg v.y)

pub square_whole : (v : V2) → square v ≡ pos (unsigned_abs (square v))
square_whole v = let h = square_some v in omega (arith, ints)

-- the opposite vector is as long
pub square-opposite : (v : V2) → square (opposite v) ≡ square v
square-opposite v = equal (v.x ∷ v.y ∷ []) (search quotes depth 40) tt

-- two points are as far apart from either side
pub square-minus : (a b : V2) → square (minus b a) ≡ square (minus a b)
square-minus a b = equal (a.x ∷ a.y ∷ b.x ∷ b.y ∷ []) (search quotes depth 40 fits 20000) tt
