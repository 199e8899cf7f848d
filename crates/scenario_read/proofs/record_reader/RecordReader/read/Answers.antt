use Rattle.std.proofs.Common.{Bor, List, ℕ, Some, inl}
use Rattle.scenario_read.proofs.RecordReads.{after_read}
use Rattle.scenario_read.proofs.RecordSteps.{flexible_reads}
use Rattle.scenario_read.proofs.record_reader.RecordReader.read.Goals as goal

pub invariant_of-self-2 : goal.invariant_of-self-2
invariant_of-self-2 c =
    let between = rw c.if-self.false at c.self.invariant in
    (after_read c.self.inside.reader c.read_byte_record.new.self _ between (inl (c.in-Ok.ensures.ready between.trim)) c.in-Ok.ensures.flexible c.in-Ok.found (c.in-Ok.ensures.reads between.trim between.ready)).0

pub returns-clause-next : goal.returns-clause-next
returns-clause-next c =
    let between = rw c.if-self.false at c.self.invariant in
    let read = c.in-Ok.ensures.reads between.trim between.ready in
    rw (← c.self.view_is, c.if-self.false)
    (after_read c.self.inside.reader c.read_byte_record.new.self _ between (inl (c.in-Ok.ensures.ready between.trim)) c.in-Ok.ensures.flexible c.in-Ok.found read).1

pub out_of_memory-requires : goal.out_of_memory-requires
out_of_memory-requires c =
    let between = rw c.if-self.false at c.self.invariant in
    flexible_reads (λ (s : Bor (List ℕ)). Some s.now) c.self.inside.reader c.read_byte_record.new.self _ between.flexible (c.in-Err.ensures.why between.ready)
