-- A byte order mark at the front is passed over.
use Rattle.std.proofs.Common.{◌≤◌, ℕ, List, [], ◌∷◌, length, Bool, true, false, cond, arith}
use Rattle.csv.specs.Reading.{strip_bom, is_bom}

shorter_if : (b : Bool) (x y : List ℕ) (n : ℕ) → length x ≤ n → length y ≤ n → length (cond b x y) ≤ n
shorter_if true x y n p q = p
shorter_if false x y n p q = q

pub strip_bom-le : (xs : List ℕ) → length (strip_bom xs) ≤ length xs
unfolding strip_bom
strip_bom-le [] = omega arith
strip_bom-le (a ∷ []) = omega arith
strip_bom-le (a ∷ b ∷ []) = omega arith
strip_bom-le (a ∷ b ∷ c ∷ rest) = shorter_if (is_bom a b c) rest (a ∷ b ∷ c ∷ rest) _ (omega arith) (omega arith)
