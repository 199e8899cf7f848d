use Rattle.published_frames.specs.Names.{writer_source}
use Rattle.live_session.proofs.run.run_steps.Given as goal

-- the writer that was just opened
abbrev pub ghosts-run_desk : goal.ghosts-run_desk
ghosts-run_desk g a = record { book = (writer_source a.desk.writer).0 }
