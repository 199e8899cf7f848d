use Rattle.std.proofs.Common.{List, [], ◌∷◌, map}
use Rattle.crowd_data.specs.Scenario.{Parts}
use Rattle.frame_text.specs.Shape.{PostedFrame, posted_of}
use Rattle.text_law.specs.TranscriptReadBack.{IsTranscriptText}
use Rattle.text_law.proofs.OnlyMemory.{only_memory}
use Rattle.text_law.proofs.TranscriptRead.{transcript_read}
use Rattle.text_law.proofs.TranscriptText.{is_transcript}
use Rattle.text_law.proofs.transcript.transcript_reads_back.Goals as goal

text : (s : Parts) (frames : List PostedFrame) → IsTranscriptText s frames
text s [] = tt
text s (first ∷ rest) = is_transcript s first rest

pub returns-clause-reads_back : goal.returns-clause-reads_back
returns-clause-reads_back c valid shaped =
    let s = c.args.scenario.now in
    let frames = map posted_of c.args.frames.now in
    let read = transcript_read s frames valid shaped in
    record { read = read; no_cause = only_memory _ s frames read }

pub returns-clause-text : goal.returns-clause-text
returns-clause-text c = text c.args.scenario.now (map posted_of c.args.frames.now)
