-- What holds between two steps, and once all turns have ended.
use Rattle.std.specs.Prelude.{◌≡◌, ℕ, ◌+◌, ◌≤◌, List, [], length, All}
use Rattle.logbook.specs.Pages.{Book}
use Rattle.fixed_vec.specs.Held.{Held}
use Rattle.crowd_data.specs.declared.post.Post.{Post}
use Rattle.crowd_data.specs.Scenario.{controllers_of}
use Rattle.crowd_data.specs.Scripts.{IsCursor}
use Rattle.frame_step.specs.Present.{Course}
use Rattle.post_box.specs.declared.limits.TheConstants.{MOST_TAKEN}
use Rattle.post_box.specs.Ends.{BoxState, PosterState, TakerState}
use Rattle.published_frames.specs.declared.reader.FrameReader.{FrameReader}
use Rattle.published_frames.specs.declared.writer.FrameWriter.{FrameWriter}
use Rattle.published_frames.specs.Names.{reader_source, writer_history, writer_source}
use Rattle.live_session.specs.declared.steered.Steered.{Steered}
use Rattle.outside_io.specs.Sinks.{SinkState}
use Rattle.live_session.specs.Running.{IsRunning, IsTaking}
use Rattle.live_session.specs.Steering.{AreLate, first_posters}

-- between two steps: all frames up to the present one are written and published, and their lists have all posts that
-- were taken
pub record IsUnderWay (start now : SinkState) (box : BoxState) (writer : FrameWriter) (course : Course) (list : Held Post) (place : ℕ) (taker : TakerState) : Type 0 where
  pub running : IsRunning start now writer course
  pub taking : IsTaking box course.scenario (writer_history writer) taker
  pub cursor : IsCursor course.scenario.posts (course.frame.number + 1) place
  pub room : length course.scenario.posts + MOST_TAKEN ≤ length list.items + list.spare

-- before the first controller begins
pub record IsOpen (start now : SinkState) (book : Book) (box : BoxState) (writer : FrameWriter) (course : Course) (list : Held Post) (place : ℕ) (taker : TakerState) (posters : List PosterState) (readers : List FrameReader) (notices : ℕ) : Type 0 where
  pub under_way : IsUnderWay start now box writer course list place taker
  pub some_steps : 1 ≤ course.scenario.steps
  pub first : writer_history writer ≡ []
  pub source : writer_source writer ≡ (book, course.scenario)
  pub posters_are : posters ≡ first_posters box course.scenario
  pub readers_are : All (λ (r : FrameReader). reader_source r ≡ (book, course.scenario)) readers
  pub notices_are : notices ≡ controllers_of course.scenario.goals

-- once all turns have ended, before the last step
pub record IsClosing (start now : SinkState) (box : BoxState) (writer : FrameWriter) (course : Course) (list : Held Post) (place : ℕ) (taker : TakerState) (steered : List Steered) : Type 0 where
  pub under_way : IsUnderWay start now box writer course list place taker
  pub last : course.frame.number + 1 ≡ course.scenario.steps
  pub count : length steered ≡ controllers_of course.scenario.goals
  pub late : AreLate box (writer_source writer) (writer_history writer) (course.frame.number + 1) steered
