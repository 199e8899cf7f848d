-- Where controllers are steered from, and what is known of their turns.
use Rattle.std.specs.Prelude.{◌≡◌, ℕ, ◌+◌, ◌*◌, ◌<◌, ◌≤◌, List, length, map, slice_index_or, Option, IfSome}
use Rattle.std.specs.List.{range_with_len}
use Rattle.logbook.specs.Pages.{Book}
use Rattle.crowd_data.specs.Scenario.{Parts, controllers_of}
use Rattle.post_box.specs.Ends.{BoxState, PosterState, first_poster}
use Rattle.published_frames.specs.declared.entry.Step.{Step}
use Rattle.published_frames.specs.declared.reader.FrameReader.{FrameReader}
use Rattle.published_frames.specs.History.{StartsWith}
use Rattle.published_frames.specs.Names.{reader_seen, reader_source}
use Rattle.controller_turns.specs.Controllers.{ControllerState, HasPostedTurns, IsSamePoster}
use Rattle.controller_turns.specs.Turns.{IsReached, goals_of}
use Rattle.live_session.specs.declared.steered.Steered.{Steered}
use Rattle.live_session.specs.declared.steered.Steering.{Steering}
use Rattle.live_session.specs.declared.steered.Steering.TheVariants.{OnThread, Here}

-- as many posts as a controller may make: a turn on each frame on its own thread, one on each frame on the stepping
-- thread, and one more, each with a post for each goal
abbrev pub most_posts : Parts → ℕ
most_posts scenario = (2 * scenario.steps + 3) * length scenario.goals

-- the controller of this number, and its poster before the first post
abbrev pub controller_of : Parts → ℕ → ControllerState
controller_of scenario number = record { number = number; goals = goals_of number scenario.goals }

abbrev pub poster_of : BoxState → Parts → ℕ → PosterState
poster_of box scenario number = first_poster box.queue (length scenario.agents) (most_posts scenario) number

-- the posters of all controllers, before the first post
abbrev pub first_posters : BoxState → Parts → List PosterState
first_posters box scenario = map (poster_of box scenario) (range_with_len 0 (controllers_of scenario.goals))

-- in each history that begins with this one and with what the reader saw, all that was posted is turns, the last one on
-- the frame of this number
abbrev pub Stands : Parts → ℕ → PosterState → Option FrameReader → List Step → Option ℕ → Type 0
Stands scenario number poster reader history last =
    (all : List Step) → IfSome reader (λ r. StartsWith all (reader_seen r)) → StartsWith all history → HasPostedTurns (goals_of number scenario.goals) scenario all poster last

-- what is known of the controller of this number, after this history, and after so many turns here
pub record IsSteered (box : BoxState) (source : Book × Parts) (history : List Step) (turns number : ℕ) (steered : Steered) : Type 0 where
  pub controller : steered.controller ≡ controller_of source.1 number
  pub poster : IsSamePoster (poster_of box source.1 number) steered.poster
  pub reader : IfSome steered.reader (λ r. reader_source r ≡ source)
  pub few : length steered.poster.posts ≤ (source.1.steps + 1 + turns) * length (goals_of number source.1.goals)
  pub stands : Stands source.1 number steered.poster steered.reader history steered.last

-- on a thread, what its promise tells
abbrev pub IsSteering : BoxState → Book × Parts → List Step → ℕ → ℕ → Steering → Type 0
IsSteering box source history turns number (OnThread thread) =
    (thread.promise.controller.value ≡ controller_of source.1 number) × (thread.promise.poster.value ≡ poster_of box source.1 number) × (reader_source thread.promise.reader.value ≡ source)
IsSteering box source history turns number (Here steered) = IsSteered box source history turns number steered

-- all controllers, in order of number
abbrev pub AreSteering : BoxState → Book × Parts → List Step → ℕ → List Steering → Type 0
AreSteering box source history turns list = (number : ℕ) (other : Steering) → number < length list → IsSteering box source history turns number (slice_index_or list number other)

abbrev pub AreSteered : BoxState → Book × Parts → List Step → ℕ → List Steered → Type 0
AreSteered box source history turns list = (number : ℕ) (other : Steered) → number < length list → IsSteered box source history turns number (slice_index_or list number other)

-- the last turn was on the last frame of this history or a later one
abbrev pub IsLate : List Step → Option ℕ → Type 0
IsLate history last = IsReached last (length history)

-- and each had its last turn so late
abbrev pub AreLate : BoxState → Book × Parts → List Step → ℕ → List Steered → Type 0
AreLate box source history turns list = (number : ℕ) (other : Steered) → number < length list
    → IsSteered box source history turns number (slice_index_or list number other) × IsLate history (slice_index_or list number other).last
