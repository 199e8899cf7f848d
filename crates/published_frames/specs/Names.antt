-- What clauses say of writers, readers, guards and notes.
use Rattle.std.specs.Prelude.{ℕ, ◌≡◌, List}
use Rattle.left_right.specs.Sides.{view}
use Rattle.logbook.specs.Pages.{Book}
use Rattle.crowd_data.specs.Run.{Snapshot, snapshot_of}
use Rattle.crowd_data.specs.Scenario.{Parts}
use Rattle.published_frames.specs.declared.entry.Step.{Step}
use Rattle.published_frames.specs.declared.writer.FrameWriter.{FrameWriter}
use Rattle.published_frames.specs.declared.reader.FrameReader.{FrameReader}
use Rattle.published_frames.specs.declared.reader.FrameGuard.{FrameGuard}
use Rattle.published_frames.specs.declared.note.Note.{Note}
use Rattle.published_frames.specs.Log.{published_in, scenario_in}

-- ---- the writer

-- whose frames they are: the book of the writer's log, and the scenario. A note or a reader is of the writer whose book it has
abbrev pub writer_source : FrameWriter → Book × Parts
writer_source writer = (writer.published.seen.book, scenario_in writer.published.seen.log)

-- all steps that were published
abbrev pub writer_history : FrameWriter → List Step
writer_history writer = published_in writer.published.seen.log

-- ---- a reader

abbrev pub reader_source : FrameReader → Book × Parts
reader_source reader = (reader.learnt.seen.book, (view reader.reader.place).scenario)

-- the history of the frame that it read last, with no step before its first read
abbrev pub reader_seen : FrameReader → List Step
reader_seen reader = (view reader.reader.place).seen

-- the longest history of the notes that it learnt
abbrev pub reader_learnt : FrameReader → List Step
reader_learnt reader = published_in reader.learnt.seen.log

-- a reader that has read and learnt no more than this history
pub record IsNewReader (source : Book × Parts) (history : List Step) (reader : FrameReader) : Type 0 where
  pub one_source : reader_source reader ≡ source
  pub has_seen : reader_seen reader ≡ history
  pub has_learnt : reader_learnt reader ≡ history

-- ---- a guard

abbrev pub guard_source : FrameGuard → Book × Parts
guard_source guard = (guard.learnt.seen.book, (view guard.reading.place).scenario)

-- the history of the frame that it lends
abbrev pub guard_seen : FrameGuard → List Step
guard_seen guard = (view guard.reading.place).seen

abbrev pub guard_learnt : FrameGuard → List Step
guard_learnt guard = published_in guard.learnt.seen.log

-- the frame that it lends
abbrev pub guard_frame : FrameGuard → Snapshot
guard_frame guard = snapshot_of guard.reading.part.value.frame

-- ---- a note

abbrev pub note_book : Note → Book
note_book note = note.prefix.seen.book

abbrev pub note_history : Note → List Step
note_history note = published_in note.prefix.seen.log

abbrev pub note_controller : Note → ℕ
note_controller note = note.controller
