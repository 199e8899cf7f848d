-- What a clause sees of a source or a sink over a reader or a writer of std.
use Rattle.std.specs.Prelude.{ℕ, List}
use Rattle.std.specs.declared.option.Option.{Option}

-- a source: the bytes that its reader has left, where the reader tells them, and the faults so far
pub record StdSourceState : Type 0 where
  pub left : Option (List ℕ)
  pub faults : ℕ

-- a sink: the bytes that reached its writer, where the writer tells them, and the faults so far
pub record StdSinkState : Type 0 where
  pub reached : Option (List ℕ)
  pub faults : ℕ
