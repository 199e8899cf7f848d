-- A text that reads back has no other cause.
use Rattle.std.proofs.Common.{◌≡◌, ◌∙◌, sym, refl, ℕ, List, length, subst, Ok, Err}
use Rattle.crowd_data.specs.Scenario.{Parts}
use Rattle.frame_text.specs.declared.cause.TranscriptCause.{TranscriptCause}
use Rattle.frame_text.specs.declared.cause.TranscriptCause.TheVariants.{Scenario, Shape, Spelling}
use Rattle.frame_text.specs.declared.cause.TranscriptFault.{TranscriptFault}
use Rattle.frame_text.specs.declared.cause.TranscriptFault.TheVariants.{NoMemory, At}
use Rattle.frame_text.specs.ReadTranscript.{IsFirstCause, IsRead, HasTranscriptFault, scenario_rows}
use Rattle.frame_text.specs.Shape.{PostedFrame, frames_of}
use Rattle.frame_text.specs.Spelling.{text_of}
use Rattle.scenario_read.specs.Records.{records_of}
use Rattle.scenario_read.proofs.OneOutcome.{accepted_or_refused, same_parts}

module _ (bytes : List ℕ) (s : Parts) (frames : List PostedFrame) (h : IsRead bytes s frames) where
  no_cause : (k : ℕ) (cause : TranscriptCause) → IsFirstCause bytes k cause → ⊥
  no_cause k (Scenario cause) g = accepted_or_refused (scenario_rows bytes) s k cause h.scenario g
  no_cause k Shape g =
      let same = same_parts (scenario_rows bytes) g.parts s g.scenario.read h.scenario.read in
      let bad = subst (λ (p : Parts). frames_of p (length (scenario_rows bytes)) (records_of bytes) ≡ Err k) same g.shape in
      let good = h.shape in cc (bad, good)
  no_cause k Spelling g =
      let same = same_parts (scenario_rows bytes) s g.parts h.scenario.read g.scenario.read in
      let read = subst (λ (p : Parts). frames_of p (length (scenario_rows bytes)) (records_of bytes) ≡ Ok frames) same h.shape in
      let other = g.shape in
      let frames_same : frames ≡ g.frames = (let e = sym read ∙ other in cc e) in
      g.other (subst (λ (p : Parts). bytes ≡ text_of p g.frames) same (subst (λ (fs : List PostedFrame). bytes ≡ text_of s fs) frames_same h.spelling))

  pub only_memory : (fault : TranscriptFault) → HasTranscriptFault bytes fault → fault ≡ NoMemory
  only_memory NoMemory g = refl
  only_memory (At k cause) g = absurd (no_cause k cause g)
