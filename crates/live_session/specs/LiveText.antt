-- The text of a live run: what posts may stand in it, and what it is at a fault.
use Rattle.std.specs.Prelude.{◌≡◌, ℕ, ◌+◌, ◌<◌, ◌≤◌, ◌⊎◌, List, [], ◌∷◌, ◌++◌, length, All}
use Rattle.std.specs.Io.KnownBytes.{Appends}
use Rattle.outside_io.specs.Causes.{AppendsPrefix, Rose}
use Rattle.outside_io.specs.Sinks.{SinkState}
use Rattle.crowd_data.specs.declared.post.Post.{Post}
use Rattle.crowd_data.specs.Run.{IsRun, Snapshot, script_of}
use Rattle.crowd_data.specs.Scenario.{Parts, controllers_of}
use Rattle.frame_text.specs.Transcript.{IsTranscript, transcript_text}
use Rattle.post_box.specs.History.{AreConsecutive, IsBoxPost, posts_by}
use Rattle.controller_turns.specs.Turns.{Preference, TurnsTo, goals_of, preferences_of, turn}
use Rattle.live_session.specs.declared.fault.LiveFault.{LiveFault}
use Rattle.live_session.specs.declared.fault.LiveFault.TheVariants.{WriteFault}

-- the posts of a frame: its scripted posts, and then posts of the scenario's controllers, each of which names an agent
-- that exists and a velocity within the limits
abbrev pub IsLiveList : Parts → ℕ → List Post → Type 0
IsLiveList scenario number posts =
    (taken : List Post) × (posts ≡ script_of scenario number ++ taken) × All (IsBoxPost (controllers_of scenario.goals) (length scenario.agents)) taken

-- so are the lists of the frames from this number on
abbrev pub AreLiveLists : Parts → ℕ → List (List Post) → Type 0
AreLiveLists scenario number [] = Unit {0}
AreLiveLists scenario number (posts ∷ rest) = IsLiveList scenario number posts × AreLiveLists scenario (number + 1) rest

-- the posts of all lists, in order
abbrev pub joined : List (List Post) → List Post
joined [] = []
joined (posts ∷ rest) = posts ++ joined rest

-- these preferences are turns of a controller on some of these frames of a run, the last one on the last frame or the one
-- before it
abbrev pub TurnsToTheEnd : Parts → ℕ → List Snapshot → List Preference → Type 0
TurnsToTheEnd scenario controller frames list =
    (place : ℕ) × ((place + 1 ≡ scenario.steps) ⊎ (place ≡ scenario.steps)) × TurnsTo (turn (goals_of controller scenario.goals)) frames list place

-- a text is the transcript of a live run that came to its end: of lists of such posts, one for each step, in which the
-- posts of each controller stand once and in order, and are its turns on frames of this run
pub record IsLiveText (scenario : Parts) (text : List ℕ) : Type 0 where
  pub lists : List (List Post)
  pub frames : List Snapshot
  pub run : IsRun scenario lists frames
  pub transcript : text ≡ transcript_text scenario lists frames
  pub count : length lists ≡ scenario.steps
  pub posts : AreLiveLists scenario 1 lists
  pub in_order : (controller : ℕ) → controller < controllers_of scenario.goals → AreConsecutive (posts_by controller (joined lists))
  pub turns : (controller : ℕ) → controller < controllers_of scenario.goals → 0 < scenario.steps
      → TurnsToTheEnd scenario controller frames (preferences_of (posts_by controller (joined lists)))

-- a text is the transcript of a live run that came so far: of lists of such posts, at most one for each step
pub record IsLiveTextSoFar (scenario : Parts) (text : List ℕ) : Type 0 where
  pub lists : List (List Post)
  pub transcript : IsTranscript scenario lists text
  pub count : length lists ≤ scenario.steps
  pub posts : AreLiveLists scenario 1 lists

-- a live run was written to its end
pub record WroteLive (scenario : Parts) (old new : SinkState) : Type 0 where
  pub text : List ℕ
  pub live : IsLiveText scenario text
  pub written : Appends old.held new.held text
  pub later : old.faults ≤ new.faults

-- a live run ended by this fault, and a prefix of its transcript so far was written
pub record WroteLivePart (scenario : Parts) (old new : SinkState) (fault : LiveFault) : Type 0 where
  pub text : List ℕ
  pub live : IsLiveTextSoFar scenario text
  pub written : AppendsPrefix old.held new.held text
  pub later : old.faults ≤ new.faults
  pub cause : fault ≡ WriteFault → Rose old.faults new.faults
