-- What stands behind a frame: its text, and its summary.
use Rattle.std.specs.Prelude.{◌≡◌, ℕ, ◌+◌, ◌-◌, List, ◌∷◌, ◌++◌}
use Rattle.crowd_data.specs.declared.post.Post.{Post}
use Rattle.crowd_data.specs.Run.{Follow, Snapshot, scripts_from}
use Rattle.crowd_data.specs.Scenario.{Parts}
use Rattle.frame_text.specs.Lines.{end_line}
use Rattle.frame_text.specs.Transcript.{frames_text, last_number}
use Rattle.run_summary.specs.Summary.{Tally, last_of, tally_of}

-- the scripts of the frames behind a frame, up to the scenario's steps
abbrev pub scripts_behind : Parts → Snapshot → List (List Post)
scripts_behind scenario frame = scripts_from scenario (frame.number + 1) (scenario.steps - frame.number)

-- a text is that of all frames behind a frame, with the line at the end
abbrev pub IsTextBehind : Parts → Snapshot → List ℕ → Type 0
IsTextBehind scenario frame text =
    (rest : List Snapshot) × Follow scenario frame (scripts_behind scenario frame) rest × (text ≡ frames_text (scripts_behind scenario frame) rest ++ end_line (last_number (frame ∷ rest)))

-- a tally is that of all frames behind a frame, of which this is the last
abbrev pub SumsUp : Parts → Snapshot → Tally → Snapshot → Type 0
SumsUp scenario frame tally last =
    (rest : List Snapshot) × Follow scenario frame (scripts_behind scenario frame) rest × (tally ≡ tally_of rest) × (last ≡ last_of frame rest)
