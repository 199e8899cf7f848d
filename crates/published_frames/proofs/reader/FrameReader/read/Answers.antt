use Rattle.std.proofs.Common.{rules}
use Rattle.left_right.specs.Sides.{view}
use Rattle.published_frames.specs.Log.{published_in}
use Rattle.published_frames.proofs.Histories.{taken_of-later}
use Rattle.published_frames.proofs.Keeping.{enters, shown_prefs}
use Rattle.published_frames.proofs.reader.FrameReader.read.Goals as goal

pub enter_as-requires : goal.enter_as-requires
enter_as-requires g c x = enters _ _ x

pub returns-then-is_within-clause-taken : goal.returns-then-is_within-clause-taken
returns-then-is_within-clause-taken g c = taken_of-later (view c.in-Ok.reading.place).seen (published_in c.args.self.learnt.seen.log) (search rules)

pub returns-then-is_within-clause-prefs : goal.returns-then-is_within-clause-prefs
returns-then-is_within-clause-prefs g c = shown_prefs _ _ c.in-Ok.ensures.1.knows_all c.in-Ok.ensures.1.shows
