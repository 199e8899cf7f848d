use Rattle.published_frames.specs.Names.{reader_source}
use Rattle.thread_tests.proofs.turns.turns_on_frame_zero.Given as goal

-- the writer that was opened
abbrev pub ghosts-turns_at : goal.ghosts-turns_at
ghosts-turns_at g a = record { book = (reader_source a.reader).0 }
