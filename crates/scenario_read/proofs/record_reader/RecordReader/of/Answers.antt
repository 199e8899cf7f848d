use Rattle.scenario_read.proofs.RecordReads.{few_records}
use Rattle.scenario_read.proofs.record_reader.RecordReader.of.Goals as goal

pub returns-clause-count : goal.returns-clause-count
returns-clause-count c = rw (c.from_reader.ensures.state, c.from_reader.ensures.source) (few_records c.args.bytes.now)
