use Rattle.std.proofs.Common.{◌≡◌, ◌≤◌, ◌++◌, List, ℕ, drop, flat_map}
use Rattle.std.specs.Io.KnownBytes.{Appends}
use Rattle.frame_text.proofs.transcript.write_lines.Given as goal

-- the lines so far, and those of the items that are left, are the whole text
abbrev pub invariant-loop-item : goal.invariant-loop-item
invariant-loop-item g l = (done : List ℕ) × (flat_map g.P.Printed.text l.items ≡ done ++ flat_map g.P.Printed.text (drop l.item-index l.items))
    × Appends (g.T.Sink.held l.fn.out) (g.T.Sink.held l.out) done
    × (g.T.Sink.faults l.fn.out ≤ g.T.Sink.faults l.out)
