-- The text of a scenario reads as its rows, and these are accepted as the scenario.
use Rattle.std.proofs.Common.{◌≡◌, ◌∙◌, ◌≤◌, inl, inr, arith, ap, sym, refl, List, [], ◌∷◌, ◌++◌, ℕ, append_assoc, length, map, flat_map}
use Rattle.std.proofs.lemmas.List.{append-nil}
use Rattle.csv.specs.Machine.{next_record}
use Rattle.csv.specs.Reading.{strip_bom}
use Rattle.csv.specs.declared.parser.State.TheVariants as st
use Rattle.crowd_data.specs.Limits.{IsAgent, IsGoal, IsRing, IsScriptPost, IsSegment, IsVersion}
use Rattle.crowd_data.specs.Scenario.{IsValid, Parts}
use Rattle.frame_text.specs.Lines.{agent_line, goal_line, header_line, post_line, ring_lines, segment_line, steps_line}
use Rattle.frame_text.specs.Transcript.{scenario_text}
use Rattle.scenario_read.specs.Reading.{IsAccepted}
use Rattle.scenario_read.specs.Records.{records_after, records_of}
use Rattle.scenario_read.proofs.RecordSteps.{records_none}
use Rattle.text_law.proofs.Lines.{agent_reads, agent_row, goal_reads, goal_row, header_reads, header_row, post_reads, post_row, ring_reads, ring_rows, segment_reads, segment_row, steps_reads, steps_row}
use Rattle.text_law.proofs.Rows.{lines_read}
use Rattle.text_law.proofs.RowsAdded.{rows_added, scenario_rows}

-- the text with its lines in order, ahead of a tail
abbrev pub text_then : Parts → List ℕ → List ℕ
text_then s tail =
    header_line s.version ++ (steps_line s.steps ++ (flat_map (λ (line : List ℕ). line) (ring_lines s.ring) ++ (flat_map (agent_line s.version) s.agents ++ (flat_map segment_line s.segments ++ (flat_map post_line s.posts ++ (flat_map goal_line s.goals ++ tail))))))

pub text_is : (s : Parts) (tail : List ℕ) → scenario_text s ++ tail ≡ text_then s tail
text_is s tail = simp append_assoc

-- it begins with no byte order mark
pub no_bom : (s : Parts) (tail : List ℕ) → strip_bom (text_then s tail) ≡ text_then s tail
unfolding strip_bom header_line
no_bom s tail = refl

known_version : (version : ℕ) → IsVersion version → version ≤ 2
known_version version (inl e) = omega (arith, e)
known_version version (inr e) = omega (arith, e)

known_ring : (ring : ℕ) → IsRing ring → ring ≤ 60
known_ring ring (inl e) = omega (arith, e)
known_ring ring (inr e) = omega (arith, e)

pub nothing_left : records_after st.StartRecord [] ≡ []
unfolding next_record
nothing_left = records_none st.StartRecord [] refl

-- the rows of a scenario, ahead of those of the tail
pub rows_read : (s : Parts) (tail : List ℕ) → IsValid s → records_after st.StartRecord (text_then s tail) ≡ scenario_rows s (records_after st.StartRecord tail)
rows_read s tail valid =
    header_reads s.version _ (known_version s.version valid.version)
    ∙ ap (λ t. header_row s.version ∷ t) (steps_reads s.steps _ valid.steps
    ∙ ap (λ t. steps_row s.steps ∷ t) (ring_reads s.ring _ (known_ring s.ring valid.ring)
    ∙ ap (λ t. ring_rows s.ring ++ t) (lines_read (agent_line s.version) (agent_row s.version) IsAgent (agent_reads s.version) s.agents _ valid.agents
    ∙ ap (λ t. map (agent_row s.version) s.agents ++ t) (lines_read segment_line segment_row IsSegment segment_reads s.segments _ valid.segments
    ∙ ap (λ t. map segment_row s.segments ++ t)
    (lines_read post_line post_row (IsScriptPost s.steps (length s.agents)) (post_reads s.steps (length s.agents) valid.steps valid.agent_count) s.posts _ valid.posts
    ∙ ap (λ t. map post_row s.posts ++ t)
    (lines_read goal_line goal_row (IsGoal (length s.agents)) (goal_reads (length s.agents) valid.agent_count) s.goals tail valid.goals))))))

pub reads_as_rows : (s : Parts) → IsValid s → records_of (scenario_text s) ≡ scenario_rows s []
reads_as_rows s valid = ap records_of (sym (append-nil (scenario_text s)) ∙ text_is s []) ∙ ap (records_after st.StartRecord) (no_bom s []) ∙ rows_read s [] valid ∙ ap (scenario_rows s) nothing_left

pub text_accepted : (s : Parts) → IsValid s → IsAccepted (records_of (scenario_text s)) s
text_accepted s valid = rw (reads_as_rows s valid) (record { read = rows_added s valid; clear = valid.clear })
