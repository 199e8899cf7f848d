-- The text of the frames behind a frame, one frame at a time, and that of a whole run.
use Rattle.std.proofs.Common.{⊎_elim, ◌≡◌, ◌∙◌, ◌≤◌, ◌+◌, ◌-◌, ◌++◌, List, [], ◌∷◌, ℕ, zero, suc, length, refl, sym, ap, subst, arith, append_assoc}
use Rattle.std.proofs.lemmas.Bool.{cases_lt}
use Rattle.crowd_data.specs.declared.post.Post.{Post}
use Rattle.crowd_data.specs.Run.{Follow, IsNext, Snapshot, script_of, scripts_from, scripts_of, start_of}
use Rattle.crowd_data.specs.Scenario.{IsValid, Parts}
use Rattle.run_law.proofs.SomeNext.{some_next}
use Rattle.frame_text.specs.Lines.{end_line}
use Rattle.frame_text.specs.Transcript.{IsTranscript, frame_text, frames_text, last_number, scenario_text}
use Rattle.orca_cli.specs.Behind.{IsTextBehind}

-- as many bodies as agents
abbrev pub IsFull : Parts → Snapshot → Type 0
IsFull scenario frame = length frame.bodies ≡ length scenario.agents

module _ (scenario : Parts) where
  -- the text of so many frames behind a frame
  IsTextOf : ℕ → ℕ → Snapshot → List ℕ → Type 0
  IsTextOf first left frame text =
      (rest : List Snapshot) × Follow scenario frame (scripts_from scenario first left) rest × (text ≡ frames_text (scripts_from scenario first left) rest ++ end_line (last_number (frame ∷ rest)))

  -- no frame is left
  pub behind_none : (frame : Snapshot) → scenario.steps ≤ frame.number → IsTextBehind scenario frame (end_line frame.number)
  unfolding IsTextOf
  behind_none frame h =
      let none : 0 ≡ scenario.steps - frame.number = omega arith in
      subst (λ left. IsTextOf (frame.number + 1) left frame (end_line frame.number)) none ([], tt, refl)

  -- the scripted posts of the next frame
  abbrev pub script_after : Snapshot → List Post
  script_after frame = script_of scenario (frame.number + 1)

  -- one more frame
  pub behind_more : (frame next : Snapshot) (text : List ℕ) → IsNext scenario frame (script_after frame) next → IsTextBehind scenario next text
      → IsTextBehind scenario frame (frame_text next (script_after frame) ++ text)
  unfolding IsTextOf
  behind_more frame next text step (rest, follow, is) =
      let number : next.number ≡ frame.number + 1 = step.number in
      let left : suc (scenario.steps - next.number) ≡ scenario.steps - frame.number = omega (arith, step.below, number) in
      let behind : IsTextOf (frame.number + 1 + 1) (scenario.steps - next.number) next text = subst (λ n. IsTextOf (n + 1) (scenario.steps - next.number) next text) number (rest, follow, is) in
      let here = frame_text next (script_after frame) in
      let later = scripts_from scenario (frame.number + 1 + 1) (scenario.steps - next.number) in
      subst (λ n. IsTextOf (frame.number + 1) n frame (here ++ text)) left (
        next ∷ behind.0,
        (step, behind.1),
        ap (λ t. here ++ t) behind.2 ∙ sym (append_assoc here (frames_text later behind.0) (end_line (last_number (next ∷ behind.0)))),
      )

  -- there is one behind each frame that has a body for each agent
  pub some_behind : IsValid scenario → (frame : Snapshot) → IsFull scenario frame → (text : List ℕ) × IsTextBehind scenario frame text
  some_behind valid frame full = by (scenario.steps - frame.number) frame full (omega arith)
    where
      by : (left : ℕ) (frame : Snapshot) → IsFull scenario frame → scenario.steps - frame.number ≤ left → (text : List ℕ) × IsTextBehind scenario frame text
      by zero frame full h = (end_line frame.number, behind_none frame (omega arith))
      by (suc left) frame full h = ⊎_elim
          (λ below.
          let (next, step) = some_next scenario frame (script_after frame) valid full below in
          let (text, behind) = by left next (step.bodies ∙ full) (omega (arith, step.number)) in
          (frame_text next (script_after frame) ++ text, behind_more frame next text step behind))
          (λ over. (end_line frame.number, behind_none frame over))
          (cases_lt frame.number scenario.steps)

  -- the text of a whole run
  pub whole_text : (first : Snapshot) (text : List ℕ) → first ≡ start_of scenario → IsTextBehind scenario first text
      → IsTranscript scenario (scripts_of scenario) (scenario_text scenario ++ (frame_text first [] ++ text))
  unfolding IsTextOf
  whole_text first text e behind = rw e (by (subst (λ f. IsTextBehind scenario f text) e behind))
    where
      by : IsTextBehind scenario (start_of scenario) text → IsTranscript scenario (scripts_of scenario) (scenario_text scenario ++ (frame_text (start_of scenario) [] ++ text))
      by behind =
          let all : scenario.steps - 0 ≡ scenario.steps = omega arith in
          let (rest, follow, is) : IsTextOf 1 scenario.steps (start_of scenario) text = subst (λ left. IsTextOf 1 left (start_of scenario) text) all behind in
          let frames = frames_text (scripts_of scenario) rest in
          let last = end_line (last_number (start_of scenario ∷ rest)) in (
            start_of scenario ∷ rest,
            (refl, follow),
            ap (λ t. scenario_text scenario ++ (frame_text (start_of scenario) [] ++ t)) is
                ∙ ap (λ t. scenario_text scenario ++ t) (sym (append_assoc (frame_text (start_of scenario) []) frames last))
                ∙ sym (append_assoc (scenario_text scenario) (frame_text (start_of scenario) [] ++ frames) last),
          )
