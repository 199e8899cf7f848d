-- A controller, and what its turns do to its poster.
use Rattle.std.specs.Prelude.{◌≡◌, ℕ, ◌+◌, ◌*◌, ◌≤◌, List, [], ◌∷◌, ◌++◌, length, All, Option, IfOk, OnOk}
use Rattle.std.specs.declared.result.Result.{Result}
use Rattle.logbook.specs.Pages.{Book}
use Rattle.fixed_vec.specs.declared.list.NoMemory.{NoMemory}
use Rattle.crowd_data.specs.declared.post.Goal.{Goal}
use Rattle.crowd_data.specs.Limits.{IsGoal}
use Rattle.crowd_data.specs.Present.{AreNumbered}
use Rattle.crowd_data.specs.Run.{Snapshot}
use Rattle.crowd_data.specs.Scenario.{Parts}
use Rattle.post_box.specs.Ends.{PosterState, after_posting, next_post}
use Rattle.published_frames.specs.declared.entry.Step.{Step}
use Rattle.published_frames.specs.declared.reader.FrameReader.{FrameReader}
use Rattle.published_frames.specs.History.{AreInRange}
use Rattle.published_frames.specs.Names.{reader_seen, reader_source}
use Rattle.controller_turns.specs.Turns.{HasTurned, Preference, frames_of, preferences_of, turn}

-- a controller: its number, and its goals in order
pub record ControllerState : Type 0 where
  pub number : ℕ
  pub goals : List Goal

-- the poster after it posted each of these preferences, in order
abbrev pub after_preferences : PosterState → List Preference → PosterState
after_preferences poster [] = poster
after_preferences poster (preference ∷ rest) = after_preferences (after_posting poster (next_post poster preference.agent preference.vel)) rest

-- the poster after it posted some of these preferences, the first ones
abbrev pub HasPostedSome : PosterState → List Preference → PosterState → Type 0
HasPostedSome before list after = (some : List Preference) × (rest : List Preference) × (list ≡ some ++ rest) × (after ≡ after_preferences before some)

-- the poster is the same, whatever it posted
abbrev pub IsSamePoster : PosterState → PosterState → Type 0
IsSamePoster before after = after ≡ record before { posts = after.posts }

-- a turn for these goals can be taken on the frame: it has a body for each agent with a goal, in order of number, at
-- coordinates below 2^31 in size, and each goal is within its limits
pub record CanTurn (goals : List Goal) (frame : Snapshot) : Type 0 where
  pub numbered : AreNumbered frame.bodies
  pub in_range : AreInRange frame.bodies
  pub limits : All (IsGoal (length frame.bodies)) goals

-- what a controller posted is turns on frames of this history, the last one on the frame of this number
abbrev pub HasPostedTurns : List Goal → Parts → List Step → PosterState → Option ℕ → Type 0
HasPostedTurns goals scenario history poster last = HasTurned (turn goals) (frames_of scenario history) (preferences_of poster.posts) last

-- as many posts as turns on every frame of a run make, one turn on each
abbrev pub posts_of_run : Parts → List Goal → ℕ
posts_of_run scenario goals = (scenario.steps + 1) * length goals

-- a controller and its poster suit a scenario: the goals are within its limits, and the poster is of the controller's
-- number, for the scenario's agents, and may post as often as a turn on every frame does
pub record Suits (scenario : Parts) (controller : ControllerState) (poster : PosterState) : Type 0 where
  pub limits : All (IsGoal (length scenario.agents)) controller.goals
  pub number : poster.controller ≡ controller.number
  pub agents : poster.agents ≡ length scenario.agents
  pub room : posts_of_run scenario controller.goals ≤ poster.most

-- how the turns of a controller end: it, its poster and its reader are given back, and where memory never ran out, all
-- that was posted is turns on frames that the reader was lent, at most one on each
pub record Ends (controller : ControllerState) (poster : PosterState) (source : Book × Parts) (end : ControllerState × PosterState × FrameReader × Result (Option ℕ) NoMemory) : Type 0 where
  pub same_controller : end.0 ≡ controller
  pub same_poster : IsSamePoster poster end.1
  pub same_source : reader_source end.2 ≡ source
  pub turned : IfOk end.3 (λ last. HasPostedTurns controller.goals source.1 (reader_seen end.2) end.1 last)
  pub few : OnOk end.3 (length end.1.posts ≤ posts_of_run source.1 controller.goals)
