-- The text of a history.
use Rattle.std.proofs.Common.{◌≡◌, ◌∙◌, ℕ, List, [], ◌∷◌, ◌++◌, map, refl, ap, sym, append_assoc, append-nil}
use Rattle.crowd_data.specs.Run.{Follow, Snapshot, start_of}
use Rattle.crowd_data.specs.Scenario.{Parts}
use Rattle.frame_text.specs.Lines.{end_line}
use Rattle.frame_text.specs.Transcript.{IsTranscript, frame_text, frames_text, last_number, scenario_text, transcript_text}
use Rattle.published_frames.specs.declared.entry.Step.{Step}
use Rattle.published_frames.specs.History.{Continues, frame_of, last_of}
use Rattle.controller_turns.specs.Turns.{frames_of}
use Rattle.live_session.specs.Running.{lists_of, text_so_far}

frames_text-append : (history : List Step) (step : Step) → frames_text (lists_of (history ++ step ∷ [])) (map frame_of (history ++ step ∷ [])) ≡ frames_text (lists_of history) (map frame_of history) ++ frame_text (frame_of step) step.posts
frames_text-append [] step = append-nil (frame_text (frame_of step) step.posts)
frames_text-append (x ∷ xs) step =
    ap (λ t. frame_text (frame_of x) x.posts ++ t) (frames_text-append xs step)
    ∙ sym (append_assoc (frame_text (frame_of x) x.posts) (frames_text (lists_of xs) (map frame_of xs)) (frame_text (frame_of step) step.posts))

-- the text of one frame more
pub text_so_far-append : (scenario : Parts) (history : List Step) (step : Step) → text_so_far scenario (history ++ step ∷ []) ≡ text_so_far scenario history ++ frame_text (frame_of step) step.posts
text_so_far-append scenario history step =
    let head = frame_text (start_of scenario) [] in
    let behind = frames_text (lists_of history) (map frame_of history) in
    let more = frame_text (frame_of step) step.posts in
    ap (λ t. scenario_text scenario ++ (head ++ t)) (frames_text-append history step)
    ∙ (ap (λ t. scenario_text scenario ++ t) (sym (append_assoc head behind more))
    ∙ sym (append_assoc (scenario_text scenario) (head ++ behind) more))

pub follows : (scenario : Parts) (frame : Snapshot) (history : List Step) → Continues scenario frame history → Follow scenario frame (lists_of history) (map frame_of history)
follows scenario frame [] legal = tt
follows scenario frame (step ∷ rest) legal = (legal.0, follows scenario (frame_of step) rest legal.2)

last_number-frames : (frame : Snapshot) (history : List Step) → last_number (frame ∷ map frame_of history) ≡ (last_of frame history).number
last_number-frames frame [] = refl
last_number-frames frame (step ∷ rest) = last_number-frames (frame_of step) rest

-- with the line at the end it is the transcript
pub whole_text : (scenario : Parts) (history : List Step) (number : ℕ) → (last_of (start_of scenario) history).number ≡ number
    → text_so_far scenario history ++ end_line number ≡ transcript_text scenario (lists_of history) (frames_of scenario history)
whole_text scenario history number last =
    ap (λ n. text_so_far scenario history ++ end_line n) (sym (last_number-frames (start_of scenario) history ∙ last))

pub is_transcript : (scenario : Parts) (history : List Step) → Continues scenario (start_of scenario) history
    → IsTranscript scenario (lists_of history) (text_so_far scenario history ++ end_line (last_of (start_of scenario) history).number)
is_transcript scenario history legal =
    (frames_of scenario history, (refl, follows scenario (start_of scenario) history legal), whole_text scenario history (last_of (start_of scenario) history).number refl)
