-- What a sink tells.
use Rattle.std.specs.Prelude.{ℕ, List}
use Rattle.std.specs.declared.option.Option.{Option}

-- the bytes held, where they are told, and the faults
pub record SinkState : Type 0 where
  pub held : Option (List ℕ)
  pub faults : ℕ

abbrev pub sink_state : Option (List ℕ) → ℕ → SinkState
sink_state held faults = record { held = held; faults = faults }
