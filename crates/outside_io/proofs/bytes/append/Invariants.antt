use Rattle.std.proofs.Common.{◌≡◌, ◌+◌, ◌++◌, take}
use Rattle.outside_io.proofs.bytes.append.Given as goal

abbrev pub invariant-loop-byte : goal.invariant-loop-byte
invariant-loop-byte l = (l.list.items ≡ l.initial.list.items ++ take l.byte-index l.bytes) × (l.byte-index + l.list.spare ≡ l.initial.list.spare)
