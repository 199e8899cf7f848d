-- The frames of a transcript: a fold over its records. A record that isn't allowed in its place ends it
-- with its number.
use Rattle.std.specs.Prelude.{ℕ, ◌+◌, ◌-◌, ◌==◌, ◌&&◌, ◌||◌, Bool, false, nat_lt, nat_le, if◌then◌else◌, List, [], ◌∷◌, ◌++◌, length, Some, None, Result, Ok, Err, codes}
use Rattle.std.specs.declared.option.Option.{Option}
use Rattle.std.specs.Str.{bytes_eq}
use Rattle.crowd_data.specs.declared.frame.Body.{Body}
use Rattle.crowd_data.specs.declared.frame.Moves.{Moves}
use Rattle.crowd_data.specs.declared.frame.Mark.{Mark}
use Rattle.crowd_data.specs.declared.frame.Mark.TheVariants.{Start, Feasible, Fallback, Stopped, Crowded}
use Rattle.crowd_data.specs.declared.post.Post.{Post}
use Rattle.crowd_data.specs.declared.limits.TheConstants.{GREATEST_AGENT, GREATEST_SPEED, MOST_STEPS}
use Rattle.crowd_data.specs.declared.post.TheConstants.{SCRIPT}
use Rattle.crowd_data.specs.Run.{Snapshot, snapshot_of}
use Rattle.crowd_data.specs.Scenario.{Parts}
use Rattle.frame_text.specs.declared.limits.TheConstants.{GREATEST_PLACE, GREATEST_RELIEF, GREATEST_SEQ}
use Rattle.scenario_read.specs.declared.cause.Cause.{Cause}
use Rattle.scenario_read.specs.Fields.{field_text}
use Rattle.scenario_read.specs.Fields.{is_kind}
use Rattle.scenario_read.specs.Values.{count_in, vector_in}
use Rattle.scenario_read.specs.Records.{Record}

-- a frame, and the posts that were taken in when it was made
pub record PostedFrame : Type 0 where
  pub posts : List Post
  pub frame : Snapshot

-- what such a frame of the code shows
abbrev pub posted_of : Moves → PostedFrame
posted_of moves = record { posts = moves.posts.items; frame = snapshot_of moves.frame }

-- ---- one record

-- go on with a value that was read, or there is none
abbrev pub with_ok : {A B : Type 0} → Result A Cause → (A → Option B) → Option B
with_ok (Ok a) more = more a
with_ok (Err cause) more = None

abbrev pub with_some : {A B : Type 0} → Option A → (A → Option B) → Option B
with_some (Some a) more = more a
with_some None more = None

-- frame,K and end,N
unfoldable pub number_of_row : Record → Option ℕ
number_of_row row = if length row == 2 then with_ok (count_in row 1 0 MOST_STEPS) (λ number. Some number) else None

-- take,CONTROLLER,SEQ,AGENT,VX,VY
unfoldable pub post_of_row : Record → Option Post
post_of_row row =
    if length row == 6
    then with_ok (count_in row 1 0 SCRIPT) (λ controller.
    with_ok (count_in row 2 0 GREATEST_SEQ) (λ seq.
    with_ok (count_in row 3 0 GREATEST_AGENT) (λ agent.
    with_ok (vector_in row 4 5 GREATEST_SPEED) (λ vel.
    Some (record { controller = controller; seq = seq; agent = agent; vel = vel })))))
    else None

-- the mark of a word
unfoldable pub mark_of_word : List ℕ → Option Mark
mark_of_word word =
    if bytes_eq word (codes "start") then Some Start
    else if bytes_eq word (codes "feasible") then Some Feasible
    else if bytes_eq word (codes "fallback") then Some Fallback
    else if bytes_eq word (codes "stopped") then Some Stopped
    else if bytes_eq word (codes "crowded") then Some Crowded
    else None

-- body,AGENT,X,Y,VX,VY,PX,PY,MARK,RELIEF
unfoldable pub body_of_row : Record → Option Body
body_of_row row =
    if length row == 10
    then with_ok (count_in row 1 0 GREATEST_AGENT) (λ agent.
    with_ok (vector_in row 2 3 GREATEST_PLACE) (λ pos.
    with_ok (vector_in row 4 5 GREATEST_SPEED) (λ vel.
    with_ok (vector_in row 6 7 GREATEST_SPEED) (λ pref.
    with_some (mark_of_word (field_text row 8)) (λ mark.
    with_ok (count_in row 9 0 GREATEST_RELIEF) (λ relief.
    Some (record { agent = agent; pos = pos; vel = vel; pref = pref; mark = mark; relief = relief })))))))
    else None

-- ---- how far the frames have come

pub record FramesSoFar : Type 0 where
  pub whole : List PostedFrame  -- the frames before the last one
  pub begun : ℕ  -- how many frames have begun: the number of the next one
  pub posts : List Post  -- of the last one
  pub bodies : List Body  -- of the last one, so far

abbrev pub none_begun : FramesSoFar
none_begun = record { whole = []; begun = 0; posts = []; bodies = [] }

-- the last frame, once one has begun
abbrev pub last_frame : FramesSoFar → PostedFrame
last_frame f = record { posts = f.posts; frame = record { number = f.begun - 1; bodies = f.bodies } }

-- all frames, with the last one
abbrev pub all_frames : FramesSoFar → List PostedFrame
all_frames f = if f.begun == 0 then f.whole else f.whole ++ last_frame f ∷ []

-- each agent has its body in the last frame, or there is none yet
abbrev pub is_whole : Parts → FramesSoFar → Bool
is_whole s f = (f.begun == 0) || (length f.bodies == length s.agents)

-- ---- one more record

-- a `frame` record: the next number, at most the steps, behind a whole frame
abbrev pub with_frame : Parts → FramesSoFar → ℕ → Option FramesSoFar
with_frame s f number =
    if (number == f.begun) && nat_le number s.steps && is_whole s f
    then Some (record { whole = all_frames f; begun = number + 1; posts = []; bodies = [] })
    else None

-- a `take` record: not in frame 0, before the bodies, for an agent that exists
abbrev pub with_post : Parts → FramesSoFar → Post → Option FramesSoFar
with_post s f post =
    if nat_lt 1 f.begun && (length f.bodies == 0) && nat_lt post.agent (length s.agents)
    then Some (record f { posts = f.posts ++ post ∷ [] })
    else None

-- a `body` record: of the next agent, which exists
abbrev pub with_body : Parts → FramesSoFar → Body → Option FramesSoFar
with_body s f body =
    if nat_lt 0 f.begun && (body.agent == length f.bodies) && nat_lt body.agent (length s.agents)
    then Some (record f { bodies = f.bodies ++ body ∷ [] })
    else None

-- one more record of these three kinds; `None` where it isn't allowed in its place
unfoldable pub with_record : Parts → FramesSoFar → Record → Option FramesSoFar
with_record s f row =
    if is_kind row (codes "frame") then with_some (number_of_row row) (with_frame s f)
    else if is_kind row (codes "take") then with_some (post_of_row row) (with_post s f)
    else if is_kind row (codes "body") then with_some (body_of_row row) (with_body s f)
    else None

-- the number of the last frame, which is whole
abbrev pub ends : Parts → FramesSoFar → Option ℕ → Bool
ends s f None = false
ends s f (Some number) = (number + 1 == f.begun) && is_whole s f

-- an `end` record with the number of the last frame
unfoldable pub is_end : Parts → FramesSoFar → Record → Bool
is_end s f row = is_kind row (codes "end") && ends s f (number_of_row row)

-- ---- all records

-- an `end` record of number k that fits is allowed where it is the last record
abbrev pub closed : FramesSoFar → ℕ → List Record → Result (List PostedFrame) ℕ
closed f k [] = Ok (all_frames f)
closed f k (row ∷ rest) = Err k

-- go on, or stop at record k
abbrev pub or_stop : {A : Type 0} → ℕ → Option FramesSoFar → (FramesSoFar → Result A ℕ) → Result A ℕ
or_stop k None more = Err k
or_stop k (Some g) more = more g

-- the records from number k on, of which those below the number `first` are the scenario's: all frames,
-- or the number of the first record that isn't allowed, or the count of records where they end too soon
unfoldable pub frames_from : Parts → ℕ → FramesSoFar → ℕ → List Record → Result (List PostedFrame) ℕ
frames_from s first f k [] = Err k
frames_from s first f k (row ∷ rest) =
    if nat_lt k first then frames_from s first f (k + 1) rest
    else if is_end s f row then closed f k rest
    else or_stop k (with_record s f row) (λ g. frames_from s first g (k + 1) rest)

-- the frames of a text's records, behind the scenario's
abbrev pub frames_of : Parts → ℕ → List Record → Result (List PostedFrame) ℕ
frames_of s first rows = frames_from s first none_begun 0 rows
