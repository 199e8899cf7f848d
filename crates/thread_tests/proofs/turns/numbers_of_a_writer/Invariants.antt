use Rattle.published_frames.specs.Names.{writer_source}
use Rattle.thread_tests.proofs.turns.numbers_of_a_writer.Given as goal

-- the writer that was opened
abbrev pub ghosts-numbers_told : goal.ghosts-numbers_told
ghosts-numbers_told g a = record { book = (writer_source a.writer.now).0 }
