-- The text of a transcript reads as its rows, and these are read as its parts.
use Rattle.std.proofs.Common.{◌≡◌, ◌∙◌, ◌<◌, ◌≤◌, ◌+◌, ap, sym, refl, ℕ, Bool, true, false, List, [], ◌∷◌, ◌++◌, length, map, flat_map, append_assoc, arith, Ok}
use Rattle.std.specs.Prelude.{◌==◌, codes}
use Rattle.std.specs.List.{AllByRecursion}
use Rattle.std.proofs.lemmas.List.{append-nil}
use Rattle.csv.specs.Records.{field_at}
use Rattle.csv.specs.declared.parser.State.TheVariants as st
use Rattle.crowd_data.specs.declared.agent.Agent.{Agent}
use Rattle.crowd_data.specs.declared.frame.Body.{Body}
use Rattle.crowd_data.specs.declared.limits.TheConstants.{FINE_RING, MOST_AGENTS, MOST_STEPS}
use Rattle.crowd_data.specs.declared.segment.Segment.{Segment}
use Rattle.crowd_data.specs.declared.post.ScriptPost.{ScriptPost}
use Rattle.crowd_data.specs.declared.post.Goal.{Goal}
use Rattle.crowd_data.specs.Scenario.{IsValid, Parts}
use Rattle.frame_text.specs.Lines.{body_line, end_line, frame_line, take_line}
use Rattle.frame_text.specs.ReadTranscript.{IsRead}
use Rattle.frame_text.specs.Shape.{PostedFrame, frames_of, none_begun}
use Rattle.frame_text.specs.Shaped.{AreBodies, AreFrames, IsPrintedPost, IsPostedFrame, IsShaped}
use Rattle.frame_text.specs.Spelling.{last_behind, text_of}
use Rattle.frame_text.specs.Transcript.{frame_text, scenario_text}
use Rattle.scenario_read.specs.Part.{before}
use Rattle.scenario_read.specs.Fields.{is_kind}
use Rattle.scenario_read.specs.Records.{Record, records_after, records_of}
use Rattle.text_law.proofs.Accepted.{no_bom, nothing_left, rows_read, text_is, text_then}
use Rattle.text_law.proofs.FrameLines.{body_reads, body_row, end_reads, end_row, frame_reads, frame_row, take_reads, take_row}
use Rattle.text_law.proofs.FramesAdded.{frame_rows, frames_added, last_small, passed}
use Rattle.text_law.proofs.Lines.{agent_row, goal_row, header_row, post_row, ring_rows, segment_row, steps_row}
use Rattle.text_law.proofs.Rows.{lines_read}
use Rattle.text_law.proofs.RowsAdded.{rows_added, scenario_rows}

-- the text of frames
abbrev frames_text : List PostedFrame → List ℕ
frames_text frames = flat_map (λ (f : PostedFrame). frame_text f.frame f.posts) frames

-- ---- the text as rows

text_of_is : (s : Parts) (frames : List PostedFrame) → text_of s frames ≡ text_then s (frames_text frames ++ (end_line (last_behind 0 frames) ++ []))
text_of_is s frames =
    let last = end_line (last_behind 0 frames) in
    append_assoc (scenario_text s) (frames_text frames) last
    ∙ ap (λ (t : List ℕ). scenario_text s ++ (frames_text frames ++ t)) (sym (append-nil last))
    ∙ text_is s (frames_text frames ++ (last ++ []))

module _ (s : Parts) (few : length s.agents ≤ MOST_AGENTS) (short : s.steps ≤ MOST_STEPS) where
  bodies_then : (bs : List Body) (who : ℕ) (tail : List ℕ) → AreBodies who bs → who + length bs ≤ length s.agents
      → records_after st.StartRecord (flat_map body_line bs ++ tail) ≡ map body_row bs ++ records_after st.StartRecord tail
  bodies_then [] who tail each room = refl
  bodies_then (b ∷ bs) who tail each room =
      ap (records_after st.StartRecord) (append_assoc (body_line b) (flat_map body_line bs) tail)
      ∙ body_reads b (flat_map body_line bs ++ tail) each.1 (let here = each.0 in omega arith)
      ∙ ap (λ t. body_row b ∷ t) (bodies_then bs (who + 1) tail each.2 (omega arith))

  posted_then : (f : PostedFrame) (n : ℕ) (tail : List ℕ) → n ≤ s.steps → IsPostedFrame s n f
      → records_after st.StartRecord (frame_text f.frame f.posts ++ tail) ≡ frame_rows f ++ records_after st.StartRecord tail
  posted_then f n tail le fits =
      let takes = flat_map take_line f.posts in
      let bodies = flat_map body_line f.frame.bodies in
      ap (records_after st.StartRecord) (append_assoc (frame_line f.frame.number ++ takes) bodies tail ∙ append_assoc (frame_line f.frame.number) takes (bodies ++ tail))
      ∙ frame_reads f.frame.number (takes ++ (bodies ++ tail)) (let same = fits.number in omega arith)
      ∙ ap (λ t. frame_row f.frame.number ∷ t) (lines_read take_line take_row (IsPrintedPost (length s.agents)) (take_reads (length s.agents) few) f.posts (bodies ++ tail) fits.posts
      ∙ ap (λ t. map take_row f.posts ++ t) (bodies_then f.frame.bodies 0 tail fits.bodies (let same = fits.count in omega arith))
      ∙ sym (append_assoc (map take_row f.posts) (map body_row f.frame.bodies) (records_after st.StartRecord tail)))

  frames_then : (frames : List PostedFrame) (n : ℕ) (tail : List ℕ) → AreFrames s n frames
      → records_after st.StartRecord (frames_text frames ++ tail) ≡ flat_map frame_rows frames ++ records_after st.StartRecord tail
  frames_then [] n tail each = refl
  frames_then (f ∷ rest) n tail each =
      ap (records_after st.StartRecord) (append_assoc (frame_text f.frame f.posts) (frames_text rest) tail)
      ∙ posted_then f n (frames_text rest ++ tail) each.0 each.1
      ∙ ap (λ t. frame_rows f ++ t) (frames_then rest (n + 1) tail each.2)
      ∙ sym (append_assoc (frame_rows f) (flat_map frame_rows rest) (records_after st.StartRecord tail))

-- ---- the scenario's rows are those before the first frame's

-- none of the rows is of the kind
abbrev NoneOf : List ℕ → List Record → Type 0
NoneOf kind rows = AllByRecursion (λ (row : Record). is_kind row kind ≡ false) rows

before_of : (kind : List ℕ) (rows rest : List Record) → NoneOf kind rows → before kind rest ≡ [] → before kind (rows ++ rest) ≡ rows
before_of kind [] rest none first = first
before_of kind (row ∷ rows) rest none first = rw none.0 (ap (λ t. row ∷ t) (before_of kind rows rest none.1 first))

none_in_map : {A : Type 0} (kind : List ℕ) (row : A → Record) (each : (x : A) → is_kind (row x) kind ≡ false) (xs : List A) (rest : List Record) → NoneOf kind rest → NoneOf kind (map row xs ++ rest)
none_in_map kind row each [] rest h = h
none_in_map kind row each (x ∷ xs) rest h = (each x, none_in_map kind row each xs rest h)

agent_no_frame : (version : ℕ) (a : Agent) → is_kind (agent_row version a) (codes "frame") ≡ false
unfolding field_at
agent_no_frame version a = refl

segment_no_frame : (s : Segment) → is_kind (segment_row s) (codes "frame") ≡ false
unfolding field_at
segment_no_frame s = refl

post_no_frame : (p : ScriptPost) → is_kind (post_row p) (codes "frame") ≡ false
unfolding field_at
post_no_frame p = refl

goal_no_frame : (g : Goal) → is_kind (goal_row g) (codes "frame") ≡ false
unfolding field_at
goal_no_frame g = refl

header_no_frame : (version : ℕ) → is_kind (header_row version) (codes "frame") ≡ false
unfolding field_at
header_no_frame version = refl

rings_no_frame : (points : ℕ) (rest : List Record) → NoneOf (codes "frame") rest → NoneOf (codes "frame") (ring_rows points ++ rest)
unfolding field_at
rings_no_frame points rest none = by (points == FINE_RING) refl
  where
    by : (fine : Bool) → (points == FINE_RING) ≡ fine → NoneOf (codes "frame") (ring_rows points ++ rest)
    by true e = rw e (refl, none)
    by false e = rw e none

steps_no_frame : (n : ℕ) → is_kind (steps_row n) (codes "frame") ≡ false
unfolding field_at
steps_no_frame n = refl

scenario_no_frame : (s : Parts) → NoneOf (codes "frame") (scenario_rows s [])
scenario_no_frame s =
    let frame = codes "frame" in
    let goals = none_in_map frame goal_row goal_no_frame s.goals [] tt in
    let posts = none_in_map frame post_row post_no_frame s.posts _ goals in
    let segments = none_in_map frame segment_row segment_no_frame s.segments _ posts in
    let agents = none_in_map frame (agent_row s.version) (agent_no_frame s.version) s.agents _ segments in
    (header_no_frame s.version, (steps_no_frame s.steps, rings_no_frame s.ring _ agents))

frame_first : (n : ℕ) (rest : List Record) → before (codes "frame") (frame_row n ∷ rest) ≡ []
unfolding field_at
frame_first n rest = refl

frames_first : (frames : List PostedFrame) (rest : List Record) → 0 < length frames → before (codes "frame") (flat_map frame_rows frames ++ rest) ≡ []
frames_first [] rest some = absurd (omega arith)
frames_first (f ∷ frames) rest some = frame_first f.frame.number _

-- all rows of a transcript
abbrev transcript_rows : Parts → List PostedFrame → List Record
transcript_rows s frames = scenario_rows s [] ++ (flat_map frame_rows frames ++ end_row (last_behind 0 frames) ∷ [])

five_then : (r a b c d rest : List Record) → r ++ (a ++ (b ++ (c ++ (d ++ rest)))) ≡ (r ++ (a ++ (b ++ (c ++ (d ++ []))))) ++ rest
five_then r a b c d rest = simp append_assoc

regroup : (s : Parts) (rest : List Record) → scenario_rows s rest ≡ scenario_rows s [] ++ rest
regroup s rest =
    ap (λ (t : List Record). header_row s.version ∷ steps_row s.steps ∷ t) (five_then (ring_rows s.ring) (map (agent_row s.version) s.agents) (map segment_row s.segments) (map post_row s.posts) (map goal_row s.goals) rest)

module _ (s : Parts) (frames : List PostedFrame) (valid : IsValid s) (shaped : IsShaped s frames) where
  last_fits : last_behind 0 frames ≤ MOST_STEPS
  last_fits = let le = last_small s 0 valid.agent_count valid.steps frames 0 0 (omega arith) shaped.each in let most = valid.steps in omega arith

  reads_as_rows : records_of (text_of s frames) ≡ transcript_rows s frames
  reads_as_rows =
      let last = last_behind 0 frames in
      let tail = frames_text frames ++ (end_line last ++ []) in
      let rest : records_after st.StartRecord tail ≡ flat_map frame_rows frames ++ end_row last ∷ [] =
      frames_then s valid.agent_count valid.steps frames 0 (end_line last ++ []) shaped.each
      ∙ ap (λ (t : List Record). flat_map frame_rows frames ++ t) (end_reads last [] last_fits ∙ ap (λ (t : List Record). end_row last ∷ t) nothing_left) in
      ap records_of (text_of_is s frames)
      ∙ ap (records_after st.StartRecord) (no_bom s tail)
      ∙ rows_read s tail valid
      ∙ ap (scenario_rows s) rest
      ∙ regroup s (flat_map frame_rows frames ++ end_row last ∷ [])

  -- ---- the law

  pub transcript_read : IsRead (text_of s frames) s frames
  transcript_read =
      let last = last_behind 0 frames in
      let rest = flat_map frame_rows frames ++ end_row last ∷ [] in
      let part : before (codes "frame") (records_of (text_of s frames)) ≡ scenario_rows s [] =
      ap (before (codes "frame")) reads_as_rows ∙ before_of (codes "frame") (scenario_rows s []) rest (scenario_no_frame s) (frames_first frames _ shaped.some) in
      let first = length (scenario_rows s []) in
      let read : frames_of s first (transcript_rows s frames) ≡ Ok frames =
      passed s first valid.agent_count valid.steps none_begun (scenario_rows s []) rest (Ok frames) 0 (omega arith)
      (frames_added s first valid.agent_count valid.steps frames none_begun last refl shaped.each (omega (arith, shaped.some)) refl last_fits) in
      record {
        scenario = rw part (record { read = rows_added s valid; clear = valid.clear });
        shape = rw (part, reads_as_rows) read;
        spelling = refl;
      }
