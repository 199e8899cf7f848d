-- The text of a scenario and of a transcript.
use Rattle.std.specs.Prelude.{◌≡◌, ℕ, List, [], ◌∷◌, ◌++◌, flat_map}
use Rattle.crowd_data.specs.declared.post.Post.{Post}
use Rattle.crowd_data.specs.Scenario.{Parts}
use Rattle.crowd_data.specs.Run.{IsRun, Snapshot}
use Rattle.frame_text.specs.Lines.{agent_line, body_line, end_line, frame_line, goal_line, header_line, post_line, ring_lines, segment_line, steps_line, take_line}

-- the lines before the agents: the header, the steps, and the ring where it is the fine one
abbrev pub head_text : Parts → List ℕ
head_text s = header_line s.version ++ steps_line s.steps ++ flat_map (λ (line : List ℕ). line) (ring_lines s.ring)

-- a scenario: these lines, then its agents, segments, posts and goals
abbrev pub scenario_text : Parts → List ℕ
scenario_text s =
    head_text s ++ flat_map (agent_line s.version) s.agents ++ flat_map segment_line s.segments
    ++ flat_map post_line s.posts ++ flat_map goal_line s.goals

-- a frame: its number, the posts that were taken in, and its bodies
abbrev pub frame_text : Snapshot → List Post → List ℕ
frame_text frame posts = frame_line frame.number ++ flat_map take_line posts ++ flat_map body_line frame.bodies

-- frames, each with its list of posts
abbrev pub frames_text : List (List Post) → List Snapshot → List ℕ
frames_text lists [] = []
frames_text [] (frame ∷ rest) = []
frames_text (posts ∷ lists) (frame ∷ rest) = frame_text frame posts ++ frames_text lists rest

-- the number of the last frame
abbrev pub last_number : List Snapshot → ℕ
last_number [] = 0
last_number (frame ∷ []) = frame.number
last_number (frame ∷ next ∷ rest) = last_number (next ∷ rest)

-- a transcript: the scenario, all frames, and the number of the last one; no posts stand in frame 0
abbrev pub transcript_text : Parts → List (List Post) → List Snapshot → List ℕ
transcript_text scenario lists frames = scenario_text scenario ++ frames_text ([] ∷ lists) frames ++ end_line (last_number frames)

-- a text is the transcript of a scenario's run with these lists of posts
abbrev pub IsTranscript : Parts → List (List Post) → List ℕ → Type 0
IsTranscript scenario lists text = (frames : List Snapshot) × IsRun scenario lists frames × (text ≡ transcript_text scenario lists frames)
