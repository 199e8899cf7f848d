-- The rows of a scenario are added one after another, and make up that scenario.
use Rattle.std.proofs.Common.{◌≡◌, ◌≢◌, ◌<◌, ◌≤◌, ◌+◌, sym, refl, ℕ, List, [], ◌∷◌, ◌++◌, length, map, append_assoc, subst, arith, Some, None, Ok, inl, inr, ⊎_elim}
use Rattle.std.specs.Prelude.{◌==◌, if◌then◌else◌, unwrap_or}
use Rattle.std.specs.List.{All, AllPairs}
use Rattle.std.specs.declared.option.Option.{Option}
use Rattle.std.proofs.lemmas.List.{append-nil}
use Rattle.csv.specs.Records.{field_at}
use Rattle.crowd_data.specs.declared.agent.Agent.{Agent}
use Rattle.crowd_data.specs.declared.segment.Segment.{Segment}
use Rattle.crowd_data.specs.declared.post.ScriptPost.{ScriptPost}
use Rattle.crowd_data.specs.declared.post.Goal.{Goal}
use Rattle.crowd_data.specs.Limits.{IsAgent, IsGoal, IsRing, IsScriptPost, IsSegment, IsVersion}
use Rattle.crowd_data.specs.declared.limits.TheConstants.{FINE_RING, MOST_AGENTS, MOST_POSTS, MOST_SEGMENTS, MOST_STEPS, PLAIN_RING}
use Rattle.crowd_data.specs.Scenario.{IsValid, Parts}
use Rattle.scenario_read.specs.Read.{Read, nothing_read}
use Rattle.scenario_read.specs.Reading.{ended, outcome, outcome_from, with_kind, with_record}
use Rattle.scenario_read.specs.Records.{Record}
use Rattle.text_law.proofs.Comparisons.{is_less, not_at_most, not_less}
use Rattle.text_law.proofs.Lines.{agent_row, goal_row, header_row, post_row, ring_row, ring_rows, segment_row, steps_row}
use Rattle.text_law.proofs.Prefixes.{next_is_only, next_keeps_order, next_one, some_more}
use Rattle.text_law.proofs.Values.{agent_is, goal_is, header_is, post_is, ring_is, segment_is, steps_is}

-- ---- rows one after another

-- one more row that is added
outcome_more : (p q : Read) (k : ℕ) (row : Record) (rest : List Record) (s : Parts) → with_record p row ≡ Ok q → outcome_from q (k + 1) rest ≡ Ok s → outcome_from p k (row ∷ rest) ≡ Ok s
unfolding outcome_from
outcome_more p q k row rest s e h = rw e h

-- rows of one kind, each added to what was read, where the whole list has what is asked of it
module _ {A : Type 0} (row : A → Record) (Fits : List A → Type 0) (read : List A → Read)
    (one_added : (done : List A) (x : A) (later : List A) → Fits (done ++ x ∷ later) → with_record (read done) (row x) ≡ Ok (read (done ++ x ∷ []))) where
  all_added : (xs done : List A) (rest : List Record) (s : Parts) → Fits (done ++ xs)
      → ((k : ℕ) → outcome_from (read (done ++ xs)) k rest ≡ Ok s) → (k : ℕ) → outcome_from (read done) k (map row xs ++ rest) ≡ Ok s
  all_added [] done rest s fits more k = subst (λ (ys : List A). outcome_from (read ys) k rest ≡ Ok s) (append-nil done) (more k)
  all_added (x ∷ xs) done rest s fits more k =
      let regrouped = sym (append_assoc done (x ∷ []) xs) in
      outcome_more (read done) (read (done ++ x ∷ [])) k (row x) (map row xs ++ rest) s
      (one_added done x xs fits)
      (all_added xs (done ++ x ∷ []) rest s (subst Fits regrouped fits) (λ (j : ℕ). subst (λ (ys : List A). outcome_from (read ys) j rest ≡ Ok s) regrouped (more j)) (k + 1))

-- ---- one row of each kind

-- the ring that is read of a scenario's rows
abbrev ring_read : ℕ → Option ℕ
ring_read points = if points == FINE_RING then Some points else None

-- what was read behind the ring
abbrev reading : ℕ → ℕ → ℕ → List Agent → List Segment → List ScriptPost → List Goal → Read
reading version ring n agents segments posts goals =
    record { version = Some version; ring = ring_read ring; steps = Some n; agents = agents; segments = segments; posts = posts; goals = goals }

record FitAgents (version : ℕ) (agents : List Agent) : Type 0 where
  each : All IsAgent agents
  plain : version ≡ 1 → All (λ (agent : Agent). agent.weight ≡ 1) agents
  count : length agents ≤ MOST_AGENTS

agent_added : (version ring n : ℕ) (done : List Agent) (a : Agent) (later : List Agent) → FitAgents version (done ++ a ∷ later)
    → with_record (reading version ring n done [] [] []) (agent_row version a) ≡ Ok (reading version ring n (done ++ a ∷ []) [] [] [])
unfolding with_record with_kind field_at
agent_added version ring n done a later fit =
    let room : length done < MOST_AGENTS = omega (arith, some_more done a later, fit.count) in
    rw (agent_is version a (next_one done a later IsAgent fit.each) (λ e. next_one done a later (λ (agent : Agent). agent.weight ≡ 1) (fit.plain e)), is_less (length done) MOST_AGENTS room) refl

record FitSegments (segments : List Segment) : Type 0 where
  each : All IsSegment segments
  count : length segments ≤ MOST_SEGMENTS

segment_added : (version ring n : ℕ) (agents : List Agent) (done : List Segment) (s : Segment) (later : List Segment) → FitSegments (done ++ s ∷ later)
    → with_record (reading version ring n agents done [] []) (segment_row s) ≡ Ok (reading version ring n agents (done ++ s ∷ []) [] [])
unfolding with_record with_kind field_at
segment_added version ring n agents done s later fit =
    let room : length done < 2000 = omega (arith, some_more done s later, fit.count) in
    rw (segment_is s (next_one done s later IsSegment fit.each), is_less (length done) 2000 room) refl

record FitPosts (n agents : ℕ) (posts : List ScriptPost) : Type 0 where
  each : All (IsScriptPost n agents) posts
  count : length posts ≤ MOST_POSTS
  order : AllPairs (λ (p : ScriptPost) (q : ScriptPost). p.frame ≤ q.frame) posts

post_added : (version ring n : ℕ) (agents : List Agent) (segments : List Segment) (done : List ScriptPost) (p : ScriptPost) (later : List ScriptPost)
    → n ≤ MOST_STEPS → length agents ≤ MOST_AGENTS → FitPosts n (length agents) (done ++ p ∷ later)
    → with_record (reading version ring n agents segments done []) (post_row p) ≡ Ok (reading version ring n agents segments (done ++ p ∷ []) [])
unfolding with_record with_kind field_at
post_added version ring n agents segments done p later few_steps few_agents fit =
    let room : length done < MOST_POSTS = omega (arith, some_more done p later, fit.count) in
    let is_fit = next_one done p later (IsScriptPost n (length agents)) fit.each in
    rw (
      post_is n (length agents) few_steps few_agents p is_fit,
      is_less (length done) MOST_POSTS room,
      not_less n p.frame is_fit.frame,
      not_at_most (length agents) p.agent is_fit.agent,
      next_keeps_order done p later fit.order,
    ) refl

record FitGoals (agents : ℕ) (goals : List Goal) : Type 0 where
  each : All (IsGoal agents) goals
  one_goal : AllPairs (λ (g : Goal) (h : Goal). g.agent ≢ h.agent) goals

goal_added : (version ring n : ℕ) (agents : List Agent) (segments : List Segment) (posts : List ScriptPost) (done : List Goal) (g : Goal) (later : List Goal)
    → length agents ≤ MOST_AGENTS → FitGoals (length agents) (done ++ g ∷ later)
    → with_record (reading version ring n agents segments posts done) (goal_row g) ≡ Ok (reading version ring n agents segments posts (done ++ g ∷ []))
unfolding with_record with_kind field_at
goal_added version ring n agents segments posts done g later few_agents fit =
    let is_fit = next_one done g later (IsGoal (length agents)) fit.each in
    rw (goal_is (length agents) few_agents g is_fit, not_at_most (length agents) g.agent is_fit.agent, next_is_only done g later fit.one_goal) refl

-- ---- the rows of a scenario

header_added : (version : ℕ) → IsVersion version → with_record nothing_read (header_row version) ≡ Ok (record nothing_read { version = Some version })
unfolding with_record
header_added version known = rw (header_is version known) refl

steps_added : (version n : ℕ) → n ≤ MOST_STEPS
    → with_record (record nothing_read { version = Some version }) (steps_row n) ≡ Ok (record nothing_read { version = Some version; steps = Some n })
unfolding with_record with_kind field_at
steps_added version n h = rw (steps_is n h) refl

-- the fine ring, which only version 2 has
ring_added : (version n : ℕ) → version ≡ 2
    → with_record (record nothing_read { version = Some version; steps = Some n }) (ring_row FINE_RING) ≡ Ok (reading version FINE_RING n [] [] [] [])
unfolding with_record with_kind field_at
ring_added version n e = rw (e, ring_is) refl

-- the rows of the ring, ahead of others
rings_added : (version ring n : ℕ) (rest : List Record) (s : Parts) → IsRing ring → (ring ≡ 60 → version ≡ 2) → ((k : ℕ) → outcome_from (reading version ring n [] [] [] []) k rest ≡ Ok s)
    → (k : ℕ) → outcome_from (record nothing_read { version = Some version; steps = Some n }) k (ring_rows ring ++ rest) ≡ Ok s
rings_added version ring n rest s (inl e) second more k =
    subst (λ points. outcome_from (record nothing_read { version = Some version; steps = Some n }) k (ring_rows points ++ rest) ≡ Ok s) (sym e)
    (subst (λ points. outcome_from (reading version points n [] [] [] []) k rest ≡ Ok s) e (more k))
rings_added version ring n rest s (inr e) second more k =
    subst (λ points. outcome_from (record nothing_read { version = Some version; steps = Some n }) k (ring_rows points ++ rest) ≡ Ok s) (sym e)
    (outcome_more _ _ k (ring_row FINE_RING) rest s (ring_added version n (second e)) (subst (λ points. outcome_from (reading version points n [] [] [] []) (k + 1) rest ≡ Ok s) e (more (k + 1))))

-- the ring is that of the rows, or else the plain one
ring_or_plain : (ring : ℕ) → IsRing ring → unwrap_or (ring_read ring) PLAIN_RING ≡ ring
ring_or_plain ring (inl e) = subst (λ points. unwrap_or (ring_read points) PLAIN_RING ≡ points) (sym e) refl
ring_or_plain ring (inr e) = subst (λ points. unwrap_or (ring_read points) PLAIN_RING ≡ points) (sym e) refl

-- the end of the rows
ended_as : (s : Parts) → IsRing s.ring → (k : ℕ) → outcome_from (reading s.version s.ring s.steps s.agents s.segments s.posts s.goals) k [] ≡ Ok s
unfolding outcome_from ended
ended_as s known k = rw (ring_or_plain s.ring known) refl

-- version 1 has the plain ring
second_version : (s : Parts) → IsValid s → s.ring ≡ 60 → s.version ≡ 2
second_version s valid e = ⊎_elim (λ first. let plain = (valid.plain first).ring_is in absurd (omega (arith, plain, e))) (λ second. second) valid.version

-- the rows of a scenario, ahead of others
abbrev pub scenario_rows : Parts → List Record → List Record
scenario_rows s rest =
    header_row s.version ∷ steps_row s.steps ∷ (ring_rows s.ring ++ (map (agent_row s.version) s.agents ++ (map segment_row s.segments ++ (map post_row s.posts ++ (map goal_row s.goals ++ rest)))))

pub rows_added : (s : Parts) → IsValid s → outcome (scenario_rows s []) ≡ Ok s
rows_added s valid =
    let goals = all_added goal_row (FitGoals (length s.agents)) (λ ys. reading s.version s.ring s.steps s.agents s.segments s.posts ys)
    (λ ys x later fit. goal_added s.version s.ring s.steps s.agents s.segments s.posts ys x later valid.agent_count fit)
    s.goals [] [] s (record { each = valid.goals; one_goal = valid.one_goal }) (ended_as s valid.ring) in
    let posts = all_added post_row (FitPosts s.steps (length s.agents)) (λ ys. reading s.version s.ring s.steps s.agents s.segments ys [])
    (λ ys x later fit. post_added s.version s.ring s.steps s.agents s.segments ys x later valid.steps valid.agent_count fit)
    s.posts [] _ s (record { each = valid.posts; count = valid.post_count; order = valid.post_order }) goals in
    let segments = all_added segment_row FitSegments (λ ys. reading s.version s.ring s.steps s.agents ys [] []) (λ ys x later fit. segment_added s.version s.ring s.steps s.agents ys x later fit)
    s.segments [] _ s (record { each = valid.segments; count = valid.segment_count }) posts in
    let agents = all_added (agent_row s.version) (FitAgents s.version) (λ ys. reading s.version s.ring s.steps ys [] [] []) (λ ys x later fit. agent_added s.version s.ring s.steps ys x later fit)
    s.agents [] _ s (record { each = valid.agents; plain = λ e. (valid.plain e).weights; count = valid.agent_count }) segments in
    let rings = rings_added s.version s.ring s.steps _ s valid.ring (second_version s valid) agents in
    outcome_more nothing_read _ 0 (header_row s.version) _ s (header_added s.version valid.version) (outcome_more _ _ 1 (steps_row s.steps) _ s (steps_added s.version s.steps valid.steps) (rings 2))
