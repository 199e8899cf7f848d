-- How far a live run has come.
use Rattle.std.specs.Prelude.{◌≡◌, ℕ, ◌<◌, ◌≤◌, List, [], ◌∷◌, ◌++◌, length, map}
use Rattle.std.specs.Io.KnownBytes.{Appends}
use Rattle.crowd_data.specs.declared.post.Post.{Post}
use Rattle.crowd_data.specs.Run.{Snapshot, start_of}
use Rattle.crowd_data.specs.Scenario.{Parts, controllers_of}
use Rattle.frame_step.specs.Present.{Course}
use Rattle.frame_text.specs.Transcript.{frames_text, scenario_text}
use Rattle.post_box.specs.Ends.{BoxState, IsTakerOf, TakerState}
use Rattle.post_box.specs.History.{posts_by}
use Rattle.published_frames.specs.declared.entry.Step.{Step}
use Rattle.published_frames.specs.declared.writer.FrameWriter.{FrameWriter}
use Rattle.published_frames.specs.History.{IsHistory, last_of}
use Rattle.published_frames.specs.Names.{writer_history, writer_source}
use Rattle.published_frames.specs.Taken.{posts_of}
use Rattle.controller_turns.specs.Turns.{frames_of}
use Rattle.outside_io.specs.Sinks.{SinkState}
use Rattle.live_session.specs.LiveText.{AreLiveLists}

-- the step that led to this frame with these posts
abbrev pub step_to : Snapshot → List Post → Step
step_to frame posts = record { posts = posts; number = frame.number; bodies = frame.bodies }

-- the lists of posts of a history
abbrev pub lists_of : List Step → List (List Post)
lists_of history = map (λ (step : Step). step.posts) history

-- the text of the scenario and of these frames
abbrev pub text_so_far : Parts → List Step → List ℕ
text_so_far scenario history = scenario_text scenario ++ frames_text ([] ∷ lists_of history) (frames_of scenario history)

-- the present frame of the run is the one that was published last
pub record IsPublished (writer : FrameWriter) (course : Course) : Type 0 where
  pub scenario : (writer_source writer).1 ≡ course.scenario
  pub frame : course.frame ≡ last_of (start_of course.scenario) (writer_history writer)
  pub number : course.frame.number ≡ length (writer_history writer)
  pub legal : IsHistory course.scenario (writer_history writer)

-- and all frames up to it are written
pub record IsRunning (start now : SinkState) (writer : FrameWriter) (course : Course) : Type 0 where
  pub published : IsPublished writer course
  pub posts : AreLiveLists course.scenario 1 (lists_of (writer_history writer))
  pub written : Appends start.held now.held (text_so_far course.scenario (writer_history writer))
  pub later : start.faults ≤ now.faults

-- what was taken out of the box is what stands in the published lists
pub record IsTaking (box : BoxState) (scenario : Parts) (history : List Step) (taker : TakerState) : Type 0 where
  pub box_is : IsTakerOf box taker
  pub controllers : taker.controllers ≡ controllers_of scenario.goals
  pub agents : taker.agents ≡ length scenario.agents
  pub taken : (controller : ℕ) → controller < controllers_of scenario.goals → posts_by controller (posts_of history) ≡ posts_by controller taker.posts
