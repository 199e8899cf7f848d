-- What a clause sees of a source or a sink in memory.
use Rattle.std.specs.Prelude.{ℕ, List, ◌++◌, drop}
use Rattle.outside_io.specs.Causes.{next_count}

-- a source: the bytes left, how many it gives a call, the calls that are to fail, and both counts so far
pub record MemSourceState : Type 0 where
  pub left : List ℕ
  pub chunk : ℕ
  pub fails : List ℕ
  pub calls : ℕ
  pub faults : ℕ

-- the source after one more call, which took n bytes
abbrev pub source_after_read : MemSourceState → ℕ → MemSourceState
source_after_read s n = record s { left = drop n s.left; calls = next_count s.calls }

-- the source after one more call, which failed
abbrev pub source_after_fault : MemSourceState → MemSourceState
source_after_fault s = record s { calls = next_count s.calls; faults = next_count s.faults }

-- a sink: the bytes held, how many fit in all, the calls that are to fail, and both counts so far
pub record MemSinkState : Type 0 where
  pub held : List ℕ
  pub room : ℕ
  pub fails : List ℕ
  pub calls : ℕ
  pub faults : ℕ

-- the sink after one more call, which took the piece
abbrev pub sink_after_write : MemSinkState → List ℕ → MemSinkState
sink_after_write s piece = record s { held = s.held ++ piece; calls = next_count s.calls }

-- the sink after one more call, which failed
abbrev pub sink_after_fault : MemSinkState → MemSinkState
sink_after_fault s = record s { calls = next_count s.calls; faults = next_count s.faults }
