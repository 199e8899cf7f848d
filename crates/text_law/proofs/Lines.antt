-- The lines of a scenario: each reads as its fields.
use Rattle.std.proofs.Common.{◌≡◌, ◌∙◌, ◌≤◌, ap, refl, ℕ, Bool, true, false, flat_map, List, [], ◌∷◌, ◌++◌, append_assoc, rules}
use Rattle.std.specs.Prelude.{◌==◌, if◌then◌else◌, codes}
use Rattle.std.specs.Fmt.{decimal, signed_decimal}
use Rattle.std.proofs.lemmas.List.{append-nil}
use Rattle.csv.specs.declared.parser.State.TheVariants as st
use Rattle.crowd_data.specs.declared.agent.Agent.{Agent}
use Rattle.crowd_data.specs.declared.limits.TheConstants.{FINE_RING, FIRST_VERSION, MOST_AGENTS, MOST_STEPS}
use Rattle.crowd_data.specs.declared.segment.Segment.{Segment}
use Rattle.crowd_data.specs.declared.post.ScriptPost.{ScriptPost}
use Rattle.crowd_data.specs.declared.post.Goal.{Goal}
use Rattle.crowd_data.specs.Limits.{IsAgent, IsGoal, IsScriptPost, IsSegment}
use Rattle.frame_text.specs.Lines.{agent_line, goal_line, header_line, post_line, ring_line, ring_lines, segment_line, steps_line, vector_text}
use Rattle.scenario_read.specs.Records.{Record, records_after}
use Rattle.text_law.proofs.Numerals.{decimal_plain, signed_plain}
use Rattle.text_law.proofs.Rows.{ArePlain, fields_then, row_read}

abbrev pub header_row : ℕ → Record
header_row version = codes "crowd" ∷ decimal version ∷ []

abbrev pub steps_row : ℕ → Record
steps_row n = codes "steps" ∷ decimal n ∷ []

abbrev pub ring_row : ℕ → Record
ring_row points = codes "ring" ∷ decimal points ∷ []

-- the row of the ring, where it is the fine one
abbrev pub ring_rows : ℕ → List Record
ring_rows points = if points == FINE_RING then ring_row points ∷ [] else []

-- the field of the weight, which version 1 doesn't have
abbrev weight_fields : ℕ → ℕ → Record
weight_fields version weight = if version == FIRST_VERSION then [] else decimal weight ∷ []

abbrev agent_numbers : ℕ → Agent → Record
agent_numbers version a =
    signed_decimal a.pos.x ∷ signed_decimal a.pos.y ∷ signed_decimal a.vel.x ∷ signed_decimal a.vel.y ∷ signed_decimal a.pref.x ∷ signed_decimal a.pref.y
    ∷ decimal a.radius ∷ decimal a.speed ∷ decimal a.range ∷ decimal a.most ∷ decimal a.horizon ∷ decimal a.wall_horizon ∷ weight_fields version a.weight

abbrev pub agent_row : ℕ → Agent → Record
agent_row version a = codes "agent" ∷ agent_numbers version a

abbrev segment_numbers : Segment → Record
segment_numbers s = signed_decimal s.a.x ∷ signed_decimal s.a.y ∷ signed_decimal s.b.x ∷ signed_decimal s.b.y ∷ []

abbrev pub segment_row : Segment → Record
segment_row s = codes "segment" ∷ segment_numbers s

abbrev post_numbers : ScriptPost → Record
post_numbers p = decimal p.frame ∷ decimal p.agent ∷ signed_decimal p.vel.x ∷ signed_decimal p.vel.y ∷ []

abbrev pub post_row : ScriptPost → Record
post_row p = codes "post" ∷ post_numbers p

abbrev goal_numbers : Goal → Record
goal_numbers g = decimal g.controller ∷ decimal g.agent ∷ signed_decimal g.at.x ∷ signed_decimal g.at.y ∷ decimal g.pace ∷ []

abbrev pub goal_row : Goal → Record
goal_row g = codes "goal" ∷ goal_numbers g

-- ---- the lines as rows

header_text : (version : ℕ) (tail : List ℕ) → header_line version ++ tail ≡ codes "crowd" ++ fields_then (decimal version ∷ []) tail
unfolding header_line
header_text version tail = simp append_assoc

ring_text : (points : ℕ) (tail : List ℕ) → ring_line points ++ tail ≡ codes "ring" ++ fields_then (decimal points ∷ []) tail
unfolding ring_line
ring_text points tail = simp append_assoc

steps_text : (n : ℕ) (tail : List ℕ) → steps_line n ++ tail ≡ codes "steps" ++ fields_then (decimal n ∷ []) tail
unfolding steps_line
steps_text n tail = simp append_assoc

weight_then : (plain : Bool) (weight : ℕ) (tail : List ℕ)
    → (if plain then [] else codes "," ++ decimal weight) ++ (codes "\n" ++ tail) ≡ fields_then (if plain then [] else decimal weight ∷ []) tail
weight_then true weight tail = refl
weight_then false weight tail = refl

agent_text : (version : ℕ) (a : Agent) (tail : List ℕ) → agent_line version a ++ tail ≡ codes "agent" ++ fields_then (agent_numbers version a) tail
unfolding agent_line vector_text
agent_text version a tail = simp (append_assoc, weight_then (version == FIRST_VERSION) a.weight tail)

segment_text : (s : Segment) (tail : List ℕ) → segment_line s ++ tail ≡ codes "segment" ++ fields_then (segment_numbers s) tail
unfolding segment_line vector_text
segment_text s tail = simp append_assoc

-- two fields and a vector, each behind its text
two_and_vector : (k s a b x y n tail : List ℕ) → k ++ a ++ s ++ b ++ s ++ (x ++ s ++ y) ++ n ++ tail ≡ k ++ (a ++ (s ++ (b ++ (s ++ (x ++ (s ++ (y ++ (n ++ tail))))))))
two_and_vector k s a b x y n tail = simp append_assoc

-- and one field more
two_vector_and_one : (k s a b x y c n tail : List ℕ)
    → k ++ a ++ s ++ b ++ s ++ (x ++ s ++ y) ++ s ++ c ++ n ++ tail ≡ k ++ (a ++ (s ++ (b ++ (s ++ (x ++ (s ++ (y ++ (s ++ (c ++ (n ++ tail))))))))))
two_vector_and_one k s a b x y c n tail = simp append_assoc

post_text : (p : ScriptPost) (tail : List ℕ) → post_line p ++ tail ≡ codes "post" ++ fields_then (post_numbers p) tail
unfolding post_line vector_text
post_text p tail = two_and_vector (codes "post,") (codes ",") (decimal p.frame) (decimal p.agent) (signed_decimal p.vel.x) (signed_decimal p.vel.y) (codes "\n") tail

goal_text : (g : Goal) (tail : List ℕ) → goal_line g ++ tail ≡ codes "goal" ++ fields_then (goal_numbers g) tail
unfolding goal_line vector_text
goal_text g tail =
    two_vector_and_one (codes "goal,") (codes ",") (decimal g.controller) (decimal g.agent) (signed_decimal g.at.x) (signed_decimal g.at.y) (decimal g.pace) (codes "\n") tail

-- ---- the lines as records

steps_plain : (n : ℕ) → n ≤ MOST_STEPS → ArePlain (steps_row n)
steps_plain n h = search (rules, decimal_plain)

agent_plain : (version : ℕ) (a : Agent) → IsAgent a → ArePlain (agent_row version a)
agent_plain version a h = by (version == FIRST_VERSION) refl
  where
    by : (plain : Bool) → (version == FIRST_VERSION) ≡ plain → ArePlain (agent_row version a)
    by true e = rw e (search (rules, decimal_plain, signed_plain))
    by false e = rw e (search (rules, decimal_plain, signed_plain))

segment_plain : (s : Segment) → IsSegment s → ArePlain (segment_row s)
segment_plain s h = search (rules, signed_plain)

-- a post of a scenario with some steps and agents within their limits
post_plain : (steps agents : ℕ) → steps ≤ MOST_STEPS → agents ≤ MOST_AGENTS → (p : ScriptPost) → IsScriptPost steps agents p → ArePlain (post_row p)
post_plain steps agents few_steps few_agents p h = search (rules, decimal_plain, signed_plain)

goal_plain : (agents : ℕ) → agents ≤ MOST_AGENTS → (g : Goal) → IsGoal agents g → ArePlain (goal_row g)
goal_plain agents few_agents g h = search (rules, decimal_plain, signed_plain)

header_plain : (version : ℕ) → version ≤ 2 → ArePlain (header_row version)
header_plain version h = search (rules, decimal_plain)

ring_plain : (points : ℕ) → points ≤ 60 → ArePlain (ring_row points)
ring_plain points h = search (rules, decimal_plain)

pub header_reads : (version : ℕ) (tail : List ℕ) → version ≤ 2 → records_after st.StartRecord (header_line version ++ tail) ≡ header_row version ∷ records_after st.StartRecord tail
header_reads version tail h = ap (records_after st.StartRecord) (header_text version tail) ∙ row_read (codes "crowd") (decimal version) [] tail (header_plain version h)

pub ring_reads : (points : ℕ) (tail : List ℕ) → points ≤ 60 → records_after st.StartRecord (flat_map (λ (line : List ℕ). line) (ring_lines points) ++ tail) ≡ ring_rows points ++ records_after st.StartRecord tail
ring_reads points tail h = by (points == FINE_RING) refl
  where
    by : (fine : Bool) → (points == FINE_RING) ≡ fine
        → records_after st.StartRecord (flat_map (λ (line : List ℕ). line) (ring_lines points) ++ tail) ≡ ring_rows points ++ records_after st.StartRecord tail
    by true e =
        rw e
        (ap (λ t. records_after st.StartRecord (t ++ tail)) (append-nil (ring_line points)) ∙ ap (records_after st.StartRecord) (ring_text points tail)
        ∙ row_read (codes "ring") (decimal points) [] tail (ring_plain points h))
    by false e = rw e refl

pub steps_reads : (n : ℕ) (tail : List ℕ) → n ≤ MOST_STEPS → records_after st.StartRecord (steps_line n ++ tail) ≡ steps_row n ∷ records_after st.StartRecord tail
steps_reads n tail h = ap (records_after st.StartRecord) (steps_text n tail) ∙ row_read (codes "steps") (decimal n) [] tail (steps_plain n h)

pub agent_reads : (version : ℕ) (a : Agent) (tail : List ℕ) → IsAgent a → records_after st.StartRecord (agent_line version a ++ tail) ≡ agent_row version a ∷ records_after st.StartRecord tail
agent_reads version a tail h =
    ap (records_after st.StartRecord) (agent_text version a tail) ∙ row_read (codes "agent") (signed_decimal a.pos.x) _ tail (agent_plain version a h)

pub segment_reads : (s : Segment) (tail : List ℕ) → IsSegment s → records_after st.StartRecord (segment_line s ++ tail) ≡ segment_row s ∷ records_after st.StartRecord tail
segment_reads s tail h =
    ap (records_after st.StartRecord) (segment_text s tail) ∙ row_read (codes "segment") (signed_decimal s.a.x) _ tail (segment_plain s h)

pub post_reads : (steps agents : ℕ) → steps ≤ MOST_STEPS → agents ≤ MOST_AGENTS → (p : ScriptPost) (tail : List ℕ) → IsScriptPost steps agents p
    → records_after st.StartRecord (post_line p ++ tail) ≡ post_row p ∷ records_after st.StartRecord tail
post_reads steps agents few_steps few_agents p tail h =
    ap (records_after st.StartRecord) (post_text p tail) ∙ row_read (codes "post") (decimal p.frame) _ tail (post_plain steps agents few_steps few_agents p h)

pub goal_reads : (agents : ℕ) → agents ≤ MOST_AGENTS → (g : Goal) (tail : List ℕ) → IsGoal agents g
    → records_after st.StartRecord (goal_line g ++ tail) ≡ goal_row g ∷ records_after st.StartRecord tail
goal_reads agents few_agents g tail h =
    ap (records_after st.StartRecord) (goal_text g tail) ∙ row_read (codes "goal") (decimal g.controller) _ tail (goal_plain agents few_agents g h)
