-- The texts of runs: a scenario has one transcript for lists of posts, and it reads back.
use Rattle.std.specs.Prelude.{◌≡◌, ℕ, List, length}
use Rattle.std.specs.List.{All}
use Rattle.crowd_data.specs.declared.post.Post.{Post}
use Rattle.crowd_data.specs.Run.{scripts_of}
use Rattle.crowd_data.specs.Scenario.{IsValid, Parts}
use Rattle.frame_text.specs.Shape.{PostedFrame}
use Rattle.frame_text.specs.Shaped.{IsPrintedPost, IsShaped}
use Rattle.frame_text.specs.Transcript.{IsTranscript}
use Rattle.text_law.specs.TranscriptReadBack.{IsReadAs}

-- two transcripts of a scenario with the same lists of posts are one text
abbrev pub OneTranscript : Parts → Type 0
OneTranscript scenario = (lists : List (List Post)) → (text other : List ℕ) → IsTranscript scenario lists text → IsTranscript scenario lists other → text ≡ other

-- a text is read as the scenario and some frames of a transcript's shape
abbrev pub IsAcceptedText : Parts → List ℕ → Type 0
IsAcceptedText scenario text = (frames : List PostedFrame) × IsShaped scenario frames × IsReadAs text scenario frames

-- so is each transcript of a valid scenario with posts within their limits
abbrev pub TranscriptsAreAccepted : Parts → Type 0
TranscriptsAreAccepted scenario = IsValid scenario → (lists : List (List Post)) → All (All (IsPrintedPost (length scenario.agents))) lists
    → (text : List ℕ) → IsTranscript scenario lists text → IsAcceptedText scenario text

-- and the one with its scripted posts
abbrev pub ScriptedIsAccepted : Parts → Type 0
ScriptedIsAccepted scenario = IsValid scenario → (text : List ℕ) → IsTranscript scenario (scripts_of scenario) text → IsAcceptedText scenario text
