use Rattle.published_frames.proofs.Histories.{taken_of-later}
use Rattle.published_frames.proofs.reader.FrameReader.learn.Goals as goal

pub returns-clause-taken : goal.returns-clause-taken
returns-clause-taken c = taken_of-later _ _ c.longer.ensures.that
