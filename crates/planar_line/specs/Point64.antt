-- Numbers of 64 bits.
use Rattle.std.specs.Prelude.{◌^◌, ◌<◌, ℤ, unsigned_abs}

-- 64 bits hold each part of a point
pub record Take64Bits (x y q : ℤ) : Type 0 where
  pub across : unsigned_abs x < 2 ^ 63
  pub along : unsigned_abs y < 2 ^ 63
  pub divisor : unsigned_abs q < 2 ^ 63
