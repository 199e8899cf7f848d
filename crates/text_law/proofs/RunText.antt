-- The text of a run is one, and it reads back.
use Rattle.std.proofs.Common.{◌≡◌, ◌∙◌, ◌≤◌, ◌+◌, ℕ, zero, suc, Bool, true, false, cond, eqb, List, [], ◌∷◌, length, refl, sym, ap, ap₂, subst, arith}
use Rattle.std.specs.List.{All}
use Rattle.std.proofs.lemmas.List.Elements.{All-cons, All-head, All-nil, All-tail}
use Rattle.crowd_data.specs.declared.post.Post.{Post}
use Rattle.crowd_data.specs.declared.post.ScriptPost.{ScriptPost}
use Rattle.crowd_data.specs.Limits.{IsScriptPost}
use Rattle.crowd_data.specs.Run.{Follow, IsRun, Snapshot, script_of, scripted_from, scripts_from, scripts_of}
use Rattle.crowd_data.specs.Scenario.{IsValid, Parts}
use Rattle.crowd_data.proofs.ScriptedPosts.{scripted}
use Rattle.crowd_data.specs.declared.limits.TheConstants.{MOST_POSTS}
use Rattle.frame_text.specs.Shaped.{IsPrintedPost}
use Rattle.frame_text.specs.Spelling.{text_of}
use Rattle.frame_text.specs.Transcript.{transcript_text}
use Rattle.run_law.proofs.OneValue.{one_run}
use Rattle.text_law.specs.RunText.{IsAcceptedText, OneTranscript, ScriptedIsAccepted, TranscriptsAreAccepted}
use Rattle.text_law.proofs.OnlyMemory.{only_memory}
use Rattle.text_law.proofs.RunFrames.{posted_frames, run_shaped}
use Rattle.text_law.proofs.TranscriptRead.{transcript_read}
use Rattle.text_law.proofs.TranscriptText.{is_transcript, posts_of, snapshots_of}

pub one_transcript : (s : Parts) → OneTranscript s
one_transcript s lists text other (frames, run, is) (others, other_run, other_is) =
    is ∙ ap (transcript_text s lists) (one_run s lists frames others run other_run) ∙ sym other_is

-- ---- frames and their posts, side by side

posts_are : (s : Parts) (frame : Snapshot) (lists : List (List Post)) (rest : List Snapshot) → Follow s frame lists rest → posts_of (posted_frames lists rest) ≡ lists
posts_are s frame [] [] follow = refl
posts_are s frame [] (next ∷ rest) follow = absurd follow
posts_are s frame (posts ∷ lists) [] follow = absurd follow
posts_are s frame (posts ∷ lists) (next ∷ rest) follow = ap (λ l. posts ∷ l) (posts_are s next lists rest follow.1)

frames_are : (s : Parts) (frame : Snapshot) (lists : List (List Post)) (rest : List Snapshot) → Follow s frame lists rest → snapshots_of (posted_frames lists rest) ≡ rest
frames_are s frame [] [] follow = refl
frames_are s frame [] (next ∷ rest) follow = absurd follow
frames_are s frame (posts ∷ lists) [] follow = absurd follow
frames_are s frame (posts ∷ lists) (next ∷ rest) follow = ap (λ l. next ∷ l) (frames_are s next lists rest follow.1)

text_is : (s : Parts) (lists : List (List Post)) (frames : List Snapshot) → IsRun s lists frames → text_of s (posted_frames ([] ∷ lists) frames) ≡ transcript_text s lists frames
text_is s lists [] run = absurd run
text_is s lists (first ∷ rest) run =
    is_transcript s (record { posts = []; frame = first }) (posted_frames lists rest) refl
    ∙ ap₂ (λ ls fs. transcript_text s ls (first ∷ fs)) (posts_are s first lists rest run.1) (frames_are s first lists rest run.1)

-- ---- what runs print is accepted

pub accepted : (s : Parts) → TranscriptsAreAccepted s
accepted s valid lists printed text (frames, run, is) =
    let posted = posted_frames ([] ∷ lists) frames in
    let shaped = run_shaped s valid lists frames printed run in
    let read = transcript_read s posted valid shaped in
    subst (IsAcceptedText s) (text_is s lists frames run ∙ sym is)
    (posted, shaped, record { read = read; no_cause = only_memory _ s posted read })

-- scripted posts are within their limits
scripted_printed : (steps agents : ℕ) (posts : List ScriptPost) (place number : ℕ) → place + length posts ≤ MOST_POSTS → All (IsScriptPost steps agents) posts → All (IsPrintedPost agents) (scripted_from place posts number)
scripted_printed steps agents [] place number few all = All-nil (IsPrintedPost agents)
scripted_printed steps agents (post ∷ rest) place number few all =
    by (eqb post.frame number) (All-head (IsScriptPost steps agents) post rest all)
    (scripted_printed steps agents rest (place + 1) number (omega (arith, few)) (All-tail (IsScriptPost steps agents) post rest all))
  where
    by : (own : Bool) → IsScriptPost steps agents post → All (IsPrintedPost agents) (scripted_from (place + 1) rest number)
        → All (IsPrintedPost agents) (cond own (scripted place post ∷ scripted_from (place + 1) rest number) (scripted_from (place + 1) rest number))
    by true sound later =
        All-cons (IsPrintedPost agents) (scripted place post) (scripted_from (place + 1) rest number)
        (record { controller = omega arith; seq = omega (arith, few); agent = sound.agent; vel = sound.vel }) later
    by false sound later = later

scripts_printed : (s : Parts) → IsValid s → (number left : ℕ) → All (All (IsPrintedPost (length s.agents))) (scripts_from s number left)
scripts_printed s valid number zero = All-nil (All (IsPrintedPost (length s.agents)))
scripts_printed s valid number (suc left) =
    All-cons (All (IsPrintedPost (length s.agents))) (script_of s number) (scripts_from s (number + 1) left)
    (scripted_printed s.steps (length s.agents) s.posts 0 number (omega (arith, valid.post_count)) valid.posts)
    (scripts_printed s valid (number + 1) left)

pub scripted_accepted : (s : Parts) → ScriptedIsAccepted s
scripted_accepted s valid text is = accepted s valid (scripts_of s) (scripts_printed s valid 1 s.steps) text is
