-- The rule of the frames: what is shown is the last frame of one legal history, of which each view is a beginning.
use Rattle.std.specs.Prelude.{◌≡◌, ℕ, true, false, List, [], length}
use mathlib.Core.Option.{some}
use lib.ListN.{get_elem?}
use Rattle.logbook.specs.Pages.{Book}
use Rattle.crowd_data.specs.Run.{snapshot_of, start_of}
use Rattle.crowd_data.specs.Scenario.{Parts}
use Rattle.published_frames.specs.declared.entry.Step.{Step}
use Rattle.published_frames.specs.declared.view.BookName.{BookName}
use Rattle.published_frames.specs.declared.view.FrameView.{FrameView}
use Rattle.published_frames.specs.declared.shown.ShownFrame.{ShownFrame}
use Rattle.published_frames.specs.History.{IsHistory, IsReadable, StartsWith, last_of}
use Rattle.published_frames.specs.Log.{attempted_in, no_parts, scenario_in}

abbrev pub name_of : Book → BookName
name_of book = record { number = book.number; log_name = book.log_name; cells_name = book.cells_name }

-- the view that knows this history
abbrev pub view_of : BookName → Parts → List Step → FrameView
view_of name scenario seen = record { knows = true; name = name; scenario = scenario; seen = seen }

-- the view that was told nothing
abbrev pub no_view : FrameView
no_view = record { knows = false; name = record { number = 0; log_name = 0; cells_name = 0 }; scenario = no_parts; seen = [] }

-- the scenario and the history of a copy
abbrev pub scenario_at : ShownFrame → Parts
scenario_at shown = scenario_in shown.prefix.seen.log

abbrev pub history_at : ShownFrame → List Step
history_at shown = attempted_in shown.prefix.seen.log

-- a copy shows the last frame of its history, which is legal
pub record ShowsLast (shown : ShownFrame) : Type 0 where
  pub history : IsHistory (scenario_at shown) (history_at shown)
  pub frame : snapshot_of shown.frame ≡ last_of (start_of (scenario_at shown)) (history_at shown)
  pub number : shown.frame.number ≡ length (history_at shown)
  pub readable : IsReadable (scenario_at shown) (snapshot_of shown.frame)

-- all that there is to know of a copy
abbrev pub view_at : ShownFrame → FrameView
view_at shown = view_of (name_of shown.prefix.seen.book) (scenario_at shown) (history_at shown)

-- what a view knows is of this copy's log and scenario, and begins its history
pub record Matches (shown : ShownFrame) (view : FrameView) : Type 0 where
  pub name : view.name ≡ name_of shown.prefix.seen.book
  pub scenario : view.scenario ≡ scenario_at shown
  pub seen : StartsWith (history_at shown) view.seen

abbrev pub MatchesWhatItKnows : ShownFrame → FrameView → Type 0
MatchesWhatItKnows shown view = view.knows ≡ true → Matches shown view

-- the rule
pub record IsKept (shown : ShownFrame) (views : List FrameView) : Type 0 where
  pub shows : ShowsLast shown
  pub each : (place : ℕ) (view : FrameView) → get_elem? views place ≡ some view → MatchesWhatItKnows shown view

-- a reader enters: it knows all of the copy, which goes on from what it knew
pub record Enters (view : FrameView) (shown next : ShownFrame) (after : FrameView) : Type 0 where
  pub knows_all : after ≡ view_at shown
  pub later : MatchesWhatItKnows shown view
  pub shows : ShowsLast shown

-- the writer publishes: it knows all of the next copy
pub record Publishes (view : FrameView) (shown next : ShownFrame) (after : FrameView) : Type 0 where
  pub knows_all : after ≡ view_at next
  pub shows : ShowsLast next
