-- The fields of a row spell the numbers that it was printed from.
use Rattle.std.proofs.Common.{◌≡◌, ◌∙◌, ◌<◌, ◌≤◌, ◌^◌, ◌&&◌, ap, sym, subst, refl, ℕ, Bool, true, false, length, ◌∷◌, inl, inr, arith, Some, ℤ, pos, neg_ℤ, ◌≤ℤ◌, int_le, unsigned_abs, Ok}
use Rattle.std.specs.Fmt.{decimal, signed_decimal}
use Rattle.std.specs.Prelude.{◌==◌, codes}
use Rattle.std.proofs.lemmas.Fmt.{decimal_digit}
use Rattle.std.proofs.lemmas.Int.{ints}
use Rattle.csv.specs.Records.{field_at}
use Rattle.fixed_vec.specs.declared.vector.V2.{V2}
use Rattle.crowd_data.specs.declared.agent.Agent.{Agent}
use Rattle.crowd_data.specs.declared.limits.TheConstants.{FINE_RING, FIRST_VERSION, GREATEST_AGENT, GREATEST_COORDINATE, GREATEST_HORIZON, GREATEST_RADIUS, GREATEST_RANGE, GREATEST_SPEED, MOST_AGENTS, MOST_STEPS, PLAIN_RING}
use Rattle.crowd_data.specs.declared.segment.Segment.{Segment}
use Rattle.crowd_data.specs.declared.post.ScriptPost.{ScriptPost}
use Rattle.crowd_data.specs.declared.post.Goal.{Goal}
use Rattle.crowd_data.specs.Limits.{IsAgent, IsGoal, IsScriptPost, IsSegment, IsVersion, IsWithin}
use Rattle.scenario_read.specs.AgentRecord.{agent_fields, agent_of, agent_with, motion_in, weight_in}
use Rattle.scenario_read.specs.Fields.{field_text}
use Rattle.scenario_read.specs.Numbers.{number_of}
use Rattle.scenario_read.specs.GoalRecord.{goal_of}
use Rattle.scenario_read.specs.PostRecord.{post_of}
use Rattle.scenario_read.specs.Reading.{header_version}
use Rattle.scenario_read.specs.Records.{Record}
use Rattle.scenario_read.specs.RingRecord.{ring_of}
use Rattle.scenario_read.specs.SegmentRecord.{segment_of}
use Rattle.scenario_read.specs.StepsRecord.{steps_of}
use Rattle.scenario_read.specs.Values.{count_in, number_in, vector_in}
use Rattle.scenario_read.proofs.KnownParts.{equal_is}
use Rattle.text_law.proofs.Lines.{agent_row, goal_row, header_row, post_row, ring_row, segment_row, steps_row}
use Rattle.text_law.proofs.Numerals.{decimal_read, signed_read}

-- ---- a field

within_limits : (low high z : ℤ) → low ≤ℤ z → z ≤ℤ high → (int_le low z && int_le z high) ≡ true
within_limits low high z p q = grind (arith, ints)

number_in_is : (fields : Record) (k : ℕ) (low high z : ℤ) → number_of (field_text fields k) ≡ Some z → low ≤ℤ z → z ≤ℤ high → number_in fields k low high ≡ Ok z
number_in_is fields k low high z e p q = rw (e, within_limits low high z p q) refl

pub count_is : (fields : Record) (k least most n : ℕ) → field_text fields k ≡ decimal n → least ≤ n → n ≤ most → most < 10 ^ 18 → count_in fields k least most ≡ Ok n
unfolding count_in
count_is fields k least most n e p q small =
    rw (number_in_is fields k (pos least) (pos most) (pos n) (ap number_of e ∙ decimal_read n (omega arith)) (omega (arith, ints)) (omega (arith, ints))) refl

coordinate_is : (fields : Record) (k most : ℕ) (z : ℤ) → field_text fields k ≡ signed_decimal z → unsigned_abs z ≤ most → most < 10 ^ 18
    → number_in fields k (neg_ℤ (pos most)) (pos most) ≡ Ok z
coordinate_is fields k most z e p small =
    number_in_is fields k (neg_ℤ (pos most)) (pos most) z (ap number_of e ∙ signed_read z (omega arith)) (omega (arith, ints)) (omega (arith, ints))

pub vector_is : (fields : Record) (k l most : ℕ) (v : V2) → field_text fields k ≡ signed_decimal v.x → field_text fields l ≡ signed_decimal v.y → IsWithin v most → most < 10 ^ 18
    → vector_in fields k l most ≡ Ok v
unfolding vector_in
vector_is fields k l most v e f h small = rw (coordinate_is fields k most v.x e h.0 small, coordinate_is fields l most v.y f h.1 small) refl

-- ---- a row

pub steps_is : (n : ℕ) → n ≤ MOST_STEPS → steps_of (steps_row n) ≡ Ok n
unfolding steps_of field_at
steps_is n h = count_is (steps_row n) 1 0 MOST_STEPS n refl (omega arith) h (omega arith)

pub segment_is : (s : Segment) → IsSegment s → segment_of (segment_row s) ≡ Ok s
unfolding segment_of field_at
segment_is s h =
    rw (vector_is (segment_row s) 1 2 GREATEST_COORDINATE s.a refl refl h.a (omega arith), vector_is (segment_row s) 3 4 GREATEST_COORDINATE s.b refl refl h.b (omega arith)) refl

-- the weight, where it is 1 in version 1
weight_is : (version : ℕ) (a : Agent) → IsAgent a → (version ≡ 1 → a.weight ≡ 1) → weight_in version (agent_row version a) ≡ Ok a.weight
unfolding weight_in field_at
weight_is version a h plain = by (version == FIRST_VERSION) refl
  where
    by : (first : Bool) → (version == FIRST_VERSION) ≡ first → weight_in version (agent_row version a) ≡ Ok a.weight
    by true e = rw e (ap (λ n. Ok n) (sym (plain (equal_is version FIRST_VERSION e))))
    by false e = rw e (count_is (codes "agent" ∷ _) 13 1 16 a.weight refl h.build.weight.0 h.build.weight.1 (omega arith))

length_is : (version : ℕ) (a : Agent) → (length (agent_row version a) == agent_fields version) ≡ true
length_is version a = by (version == FIRST_VERSION) refl
  where
    by : (first : Bool) → (version == FIRST_VERSION) ≡ first → (length (agent_row version a) == agent_fields version) ≡ true
    by true e = rw e refl
    by false e = rw e refl

pub agent_is : (version : ℕ) (a : Agent) → IsAgent a → (version ≡ 1 → a.weight ≡ 1) → agent_of version (agent_row version a) ≡ Ok a
unfolding agent_of motion_in agent_with field_at
agent_is version a h plain =
    let fields = agent_row version a in
    rw (
      length_is version a,
      vector_is fields 1 2 GREATEST_COORDINATE a.pos refl refl h.pos (omega arith),
      vector_is fields 3 4 GREATEST_SPEED a.vel refl refl h.vel (omega arith),
      vector_is fields 5 6 GREATEST_SPEED a.pref refl refl h.pref (omega arith),
      count_is fields 7 1 GREATEST_RADIUS a.radius refl h.build.some_radius h.build.radius (omega arith),
      count_is fields 8 0 GREATEST_SPEED a.speed refl (omega arith) h.build.speed (omega arith),
      count_is fields 9 0 GREATEST_RANGE a.range refl (omega arith) h.build.range (omega arith),
      count_is fields 10 0 64 a.most refl (omega arith) h.build.most (omega arith),
      count_is fields 11 1 GREATEST_HORIZON a.horizon refl h.build.some_horizon h.build.horizon (omega arith),
      count_is fields 12 1 GREATEST_HORIZON a.wall_horizon refl h.build.some_wall_horizon h.build.wall_horizon (omega arith),
      weight_is version a h plain,
    ) refl

-- the fine ring
pub ring_is : ring_of (ring_row FINE_RING) ≡ Ok FINE_RING
unfolding ring_of field_at
ring_is = rw (count_is (ring_row FINE_RING) 1 PLAIN_RING FINE_RING FINE_RING refl (omega arith) (omega arith) (omega arith)) refl

-- the header of either version
pub header_is : (version : ℕ) → IsVersion version → header_version (header_row version) ≡ Some version
unfolding field_at
header_is version (inl e) = subst (λ v. header_version (header_row v) ≡ Some v) (sym e) (rw (decimal_digit 1 (omega arith)) refl)
header_is version (inr e) = subst (λ v. header_version (header_row v) ≡ Some v) (sym e) (rw (decimal_digit 2 (omega arith)) refl)

pub post_is : (steps agents : ℕ) → steps ≤ MOST_STEPS → agents ≤ MOST_AGENTS → (p : ScriptPost) → IsScriptPost steps agents p → post_of (post_row p) ≡ Ok p
unfolding post_of field_at
post_is steps agents few_steps few_agents p h =
    let fields = post_row p in
    let frame : p.frame ≤ MOST_STEPS = omega (arith, h.frame) in
    let agent : p.agent ≤ GREATEST_AGENT = omega (arith, h.agent) in
    rw (
      count_is fields 1 1 MOST_STEPS p.frame refl h.some_frame frame (omega arith),
      count_is fields 2 0 GREATEST_AGENT p.agent refl (omega arith) agent (omega arith),
      vector_is fields 3 4 GREATEST_SPEED p.vel refl refl h.vel (omega arith),
    ) refl

pub goal_is : (agents : ℕ) → agents ≤ MOST_AGENTS → (g : Goal) → IsGoal agents g → goal_of (goal_row g) ≡ Ok g
unfolding goal_of field_at
goal_is agents few_agents g h =
    let fields = goal_row g in
    let agent : g.agent ≤ GREATEST_AGENT = omega (arith, h.agent) in
    rw (
      count_is fields 1 0 15 g.controller refl (omega arith) h.controller (omega arith),
      count_is fields 2 0 GREATEST_AGENT g.agent refl (omega arith) agent (omega arith),
      vector_is fields 3 4 GREATEST_COORDINATE g.at refl refl h.at (omega arith),
      count_is fields 5 0 GREATEST_SPEED g.pace refl (omega arith) h.pace (omega arith),
    ) refl
