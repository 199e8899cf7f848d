-- What is written of a run: the frames one after another, or a prefix of the whole where a write failed.
use Rattle.std.proofs.Common.{◌≡◌, ◌≤◌, ◌++◌, List, [], ℕ, Result, sym, subst, append_assoc}
use Rattle.std.specs.declared.option.Option.{Option}
use Rattle.std.specs.Io.KnownBytes.{Appends}
use Rattle.std.proofs.KnownBytes.{Appends-nil, Appends-trans}
use Rattle.outside_io.specs.Causes.{AppendsPrefix, Wrote}
use Rattle.outside_io.proofs.WroteLemmas.{prefix_longer, prefix_then, wrote_then}
use Rattle.crowd_data.specs.declared.post.Post.{Post}
use Rattle.crowd_data.specs.Run.{IsNext, Snapshot, scripts_of, start_of}
use Rattle.crowd_data.specs.Scenario.{IsValid, Parts}
use Rattle.crowd_data.proofs.Frames.{length-starting_bodies}
use Rattle.frame_text.specs.Lines.{end_line}
use Rattle.frame_text.specs.Transcript.{IsTranscript, frame_text, scenario_text}
use Rattle.orca_cli.specs.Behind.{IsTextBehind}
use Rattle.orca_cli.proofs.TextBehind.{IsFull, behind_more, behind_none, script_after, some_behind, whole_text}

-- what was written, with the text behind the present frame, is the text behind the first one
abbrev pub IsPart : Parts → Snapshot → Snapshot → Option (List ℕ) → Option (List ℕ) → Type 0
IsPart scenario first present a b =
    (done : List ℕ) × ((text : List ℕ) → IsTextBehind scenario present text → IsTextBehind scenario first (done ++ text)) × Appends a b done

-- nothing was written yet
pub part_none : (scenario : Parts) (first : Snapshot) (a : Option (List ℕ)) → IsPart scenario first first a a
part_none scenario first a = ([], (λ text behind. behind), Appends-nil a)

-- ---- the frames behind a frame

module _ (scenario : Parts) (first : Snapshot) (a b : Option (List ℕ)) where
  -- the whole was written, or a prefix of it
  abbrev pub WroteBehind : {T E : Type 0} → Option (List ℕ) → Result T E → Type 0
  WroteBehind c r = (text : List ℕ) × IsTextBehind scenario first text × Wrote a c r text

  -- the line at the end
  pub ended : (present : Snapshot) → scenario.steps ≤ present.number → IsPart scenario first present a b
      → {T E : Type 0} (c : Option (List ℕ)) (r : Result T E) → Wrote b c r (end_line present.number) → WroteBehind c r
  ended present over (done, whole, held) c r w = (done ++ end_line present.number, whole (end_line present.number) (behind_none scenario present over), wrote_then a b c r done (end_line present.number) held w)

  module _ (before next : Snapshot) (posts : List Post) (script : posts ≡ script_after scenario before) (step : IsNext scenario before posts next) (part : IsPart scenario first before a b) where
    -- one more frame
    more : (text : List ℕ) → IsTextBehind scenario next text → IsTextBehind scenario first ((part.0 ++ frame_text next posts) ++ text)
    more text behind =
        subst (IsTextBehind scenario first) (sym (append_assoc part.0 (frame_text next posts) text))
        (part.1 (frame_text next posts ++ text)
        (subst (λ (list : List Post). IsTextBehind scenario before (frame_text next list ++ text)) (sym script)
        (behind_more scenario before next text (subst (λ (list : List Post). IsNext scenario before list next) script step) behind)))

    pub part_more : (shown : Snapshot) → shown ≡ next → (c : Option (List ℕ)) → Appends b c (frame_text shown posts) → IsPart scenario first next a c
    part_more shown same c held = (part.0 ++ frame_text next posts, more, Appends-trans a b c part.0 (frame_text next posts) part.2 (subst (λ f. Appends b c (frame_text f posts)) same held))

    -- a failure in the midst of it
    pub broken_off : IsValid scenario → IsFull scenario next → (shown : Snapshot) → shown ≡ next → (c : Option (List ℕ)) → AppendsPrefix b c (frame_text shown posts)
        → (text : List ℕ) × IsTextBehind scenario first text × AppendsPrefix a c text
    broken_off valid full shown same c p =
        let (rest, behind) = some_behind scenario valid next full in (
          (part.0 ++ frame_text next posts) ++ rest,
          more rest behind,
          prefix_longer a c (part.0 ++ frame_text next posts) rest (prefix_then a b c part.0 (frame_text next posts) part.2 (subst (λ f. AppendsPrefix b c (frame_text f posts)) same p)),
        )

-- ---- the whole run

module _ (scenario : Parts) (valid : IsValid scenario) (first : Snapshot) (start : first ≡ start_of scenario) (a b : Option (List ℕ)) where
  begun : IsFull scenario first
  begun = rw start (length-starting_bodies 0 scenario.agents)

  -- the text of the scenario and of frame 0
  abbrev pub start_text : List ℕ
  start_text = scenario_text scenario ++ frame_text first []

  with_start : (rest : List ℕ) → IsTextBehind scenario first rest → IsTranscript scenario (scripts_of scenario) (start_text ++ rest)
  with_start rest behind =
      subst (IsTranscript scenario (scripts_of scenario)) (sym (append_assoc (scenario_text scenario) (frame_text first []) rest)) (whole_text scenario first rest start behind)

  -- a failure in the midst of it
  pub start_broken_off : AppendsPrefix a b start_text → (text : List ℕ) × IsTranscript scenario (scripts_of scenario) text × AppendsPrefix a b text
  start_broken_off p = let (rest, behind) = some_behind scenario valid first begun in (start_text ++ rest, with_start rest behind, prefix_longer a b start_text rest p)

  -- the frames behind frame 0 were written, or a prefix of them
  pub run_written : Appends a b start_text → {T E : Type 0} (d : Option (List ℕ)) (r : Result T E)
      → (text : List ℕ) × IsTextBehind scenario first text × Wrote b d r text → (text : List ℕ) × IsTranscript scenario (scripts_of scenario) text × Wrote a d r text
  run_written held d r (rest, behind, w) = (start_text ++ rest, with_start rest behind, wrote_then a b d r start_text rest held w)
