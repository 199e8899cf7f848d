-- The text of a transcript reads back as its parts.
use Rattle.std.specs.Prelude.{◌≡◌, ℕ, List, [], ◌∷◌, map}
use Rattle.crowd_data.specs.Scenario.{IsValid, Parts}
use Rattle.frame_text.specs.declared.cause.TranscriptFault.{TranscriptFault}
use Rattle.frame_text.specs.declared.cause.TranscriptFault.TheVariants.{NoMemory}
use Rattle.frame_text.specs.ReadTranscript.{IsRead, HasTranscriptFault}
use Rattle.frame_text.specs.Shape.{PostedFrame}
use Rattle.frame_text.specs.Shaped.{IsShaped}
use Rattle.frame_text.specs.Spelling.{text_of}
use Rattle.frame_text.specs.Transcript.{transcript_text}

-- a text is read as these parts, and it has no fault but that memory ran out
pub record IsReadAs (text : List ℕ) (s : Parts) (frames : List PostedFrame) : Type 0 where
  pub read : IsRead text s frames
  pub no_cause : (fault : TranscriptFault) → HasTranscriptFault text fault → fault ≡ NoMemory

abbrev pub TranscriptReadsBack : Parts → List PostedFrame → Type 0
TranscriptReadsBack s frames = IsValid s → IsShaped s frames → IsReadAs (text_of s frames) s frames

-- it is the transcript's text, where frame 0 has no posts
abbrev pub IsTranscriptText : Parts → List PostedFrame → Type 0
IsTranscriptText s [] = Unit {0}
IsTranscriptText s (first ∷ rest) =
    first.posts ≡ [] → text_of s (first ∷ rest) ≡ transcript_text s (map (λ (f : PostedFrame). f.posts) rest) (map (λ (f : PostedFrame). f.frame) (first ∷ rest))
