-- What a clause sees of a list.
use Rattle.std.specs.Prelude.{ℕ, List}

-- a list's items, and how many more it takes without asking for memory
pub record Held (T : Type 0) : Type 0 where
  pub items : List T
  pub spare : ℕ
