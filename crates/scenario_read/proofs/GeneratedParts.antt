-- Generated parts are those of a scenario.
use Rattle.std.proofs.Common.{◌≡◌, ◌≢◌, ◌<◌, ◌≤◌, ◌+◌, ◌*◌, ◌/◌, ◌%◌, ℕ, zero, suc, List, [], ◌∷◌, length, sym, ap, subst, refl, arith, ℤ, pos, neg_ℤ, ◌+ℤ◌, ◌-ℤ◌, ◌*ℤ◌, ◌≤ℤ◌, unsigned_abs, ⊎_elim, inl}
use Rattle.std.specs.List.{All, AllPairs}
use Rattle.std.proofs.Math.Nat.{div-lt_iff_lt-mul, mod-lt}
use Rattle.std.proofs.lemmas.Int.{ints}
use Rattle.std.proofs.lemmas.Bool.{cases_lt}
use Rattle.std.proofs.lemmas.List.Elements.{All-cons, All-head, All-nil, All-tail}
use Rattle.std.proofs.lemmas.List.Kept.{AllPairs-cons}
use Rattle.exact_algebra.proofs.Ring.{quotes, shown}
use Rattle.exact_algebra.proofs.Order.{gap_nonneg, product_nonneg, square_nonneg, sum_nonneg}
use Rattle.exact_algebra.proofs.Rounding.{ceil_root_first, ceil_root_reaches}
use Rattle.exact_algebra.specs.Numbers.{ceil_root}
use Rattle.fixed_vec.specs.declared.vector.V2.{V2}
use Rattle.fixed_vec.specs.Vector.{opposite}
use Rattle.crowd_data.specs.declared.agent.Agent.{Agent}
use Rattle.crowd_data.specs.declared.segment.Segment.{Segment}
use Rattle.crowd_data.specs.declared.post.ScriptPost.{ScriptPost}
use Rattle.crowd_data.specs.declared.post.Goal.{Goal}
use Rattle.crowd_data.specs.Limits.{IsAgent, IsGoal, IsPosition, IsScriptPost, IsSegment, IsVelocity}
use Rattle.crowd_data.specs.declared.limits.TheConstants.{FIRST_VERSION, GREATEST_COORDINATE, MOST_AGENTS, MOST_SEGMENTS, MOST_STEPS, PLAIN_RING}
use Rattle.crowd_data.specs.Scenario.{IsValid, Parts}
use Rattle.crowd_data.specs.Walls.{IsClear}
use Rattle.scenario_read.specs.declared.generator.TheConstants.{MOST_COLUMNS}
use Rattle.scenario_read.specs.Generator.{coordinate, drawn, generated, generated_agent, generated_agents, generated_goal, generated_goals, generated_post, generated_posts, generated_segments, half_width, left_wall, lower_wall, right_wall, state_after, upper_wall, velocity}

drawn_lt : (s k m : ℕ) → 0 < m → drawn s k m < m
drawn_lt s k m h = mod-lt (state_after k s) h

-- ---- agents in their cells

-- a coordinate of a place in one of the cells
record IsInside (side : ℕ) (z : ℤ) : Type 0 where
  low : neg_ℤ (pos (2000 * side + 500)) ≤ℤ z
  high : (z +ℤ pos 3500) ≤ℤ pos (2000 * side)

coordinate_inside : (side place d : ℕ) → place < side → d < 1001 → IsInside side (coordinate side place d)
coordinate_inside side place d h k = record { low = omega (arith, ints); high = omega (arith, ints) }

-- an agent in one of the cells
record IsPlaced (side : ℕ) (agent : Agent) : Type 0 where
  x : IsInside side agent.pos.x
  y : IsInside side agent.pos.y
  radius : agent.radius ≤ 1000
  plain : agent.weight ≡ 1
  fit : IsAgent agent

inside_position : (side : ℕ) (v : V2) → side ≤ MOST_COLUMNS → IsInside side v.x → IsInside side v.y → IsPosition v
inside_position side v few x y = (omega (arith, ints, x.low, x.high), omega (arith, ints, y.low, y.high))

velocity_fit : (x y : ℕ) → x < 401 → y < 401 → IsVelocity (velocity x y)
velocity_fit x y h k = (omega (arith, ints), omega (arith, ints))

agent_placed : (side number s : ℕ) → 1 ≤ side → side ≤ MOST_COLUMNS → number < side * side → IsPlaced side (generated_agent side number s)
unfolding generated_agent
agent_placed side number s some few cell =
    let x = coordinate_inside side (number % side) (drawn s 1 1001) (mod-lt number some) (drawn_lt s 1 1001 (omega arith)) in
    let y = coordinate_inside side (number / side) (drawn s 2 1001) ((div-lt_iff_lt-mul some).1 cell) (drawn_lt s 2 1001 (omega arith)) in
    let radius = drawn_lt s 3 501 (omega arith) in
    let speed = drawn_lt s 4 201 (omega arith) in
    record {
      x = x;
      y = y;
      radius = omega (arith, radius);
      plain = refl;
      fit =
          record {
            pos = inside_position side _ few x y;
            vel = (omega (arith, ints), omega (arith, ints));
            pref = velocity_fit _ _ (drawn_lt s 5 401 (omega arith)) (drawn_lt s 6 401 (omega arith));
            build =
                record {
                  some_radius = omega arith;
                  radius = omega (arith, radius);
                  speed = omega (arith, speed);
                  range = omega arith;
                  most = omega arith;
                  some_horizon = omega arith;
                  horizon = omega arith;
                  some_wall_horizon = omega arith;
                  wall_horizon = omega arith;
                  weight = (omega arith, omega arith);
                };
          };
    }

agents_placed : (side number left s : ℕ) → 1 ≤ side → side ≤ MOST_COLUMNS → number + left ≤ side * side → All (IsPlaced side) (generated_agents side number left s)
unfolding generated_agents
agents_placed side number zero s some few cells = All-nil (IsPlaced side)
agents_placed side number (suc left) s some few cells =
    All-cons (IsPlaced side) _ _ (agent_placed side number s some few (omega arith)) (agents_placed side (number + 1) left (state_after 6 s) some few (omega arith))

pub length-generated_agents : (side number left s : ℕ) → length (generated_agents side number left s) ≡ left
unfolding generated_agents
length-generated_agents side number zero s = refl
length-generated_agents side number (suc left) s = ap suc (length-generated_agents side (number + 1) left (state_after 6 s))

-- ---- walls

-- a number of at least r in size
far_square : (r z : ℤ) → pos 0 ≤ℤ r → r ≤ℤ z → (r *ℤ r) ≤ℤ (z *ℤ z)
far_square r z some h =
    let two : pos 0 ≤ℤ pos 2 = omega (arith, ints) in
    shown (r ∷ z ∷ [])
    (sum_nonneg _ _ (square_nonneg (z -ℤ r)) (product_nonneg _ _ (product_nonneg _ _ two some) (gap_nonneg _ _ h)))
    (search quotes depth 40 fits 20000) tt

-- off a level or an upright direction
level_off : (x y u w r k m : ℤ) → w ≡ pos 0 → (r *ℤ r) ≤ℤ (y *ℤ y)
    → (m *ℤ m *ℤ (r *ℤ r)) ≤ℤ ((m *ℤ x -ℤ k *ℤ u) *ℤ (m *ℤ x -ℤ k *ℤ u) +ℤ (m *ℤ y -ℤ k *ℤ w) *ℤ (m *ℤ y -ℤ k *ℤ w))
level_off x y u w r k m none far =
    subst (λ v. (m *ℤ m *ℤ (r *ℤ r)) ≤ℤ ((m *ℤ x -ℤ k *ℤ u) *ℤ (m *ℤ x -ℤ k *ℤ u) +ℤ (m *ℤ y -ℤ k *ℤ v) *ℤ (m *ℤ y -ℤ k *ℤ v))) (sym none)
    (shown (x ∷ y ∷ u ∷ r ∷ k ∷ m ∷ [])
    (sum_nonneg _ _ (product_nonneg _ (m *ℤ m) (gap_nonneg _ _ far) (square_nonneg m)) (square_nonneg (m *ℤ x -ℤ k *ℤ u)))
    (search quotes depth 40 fits 20000) tt)

upright_off : (x y u w r k m : ℤ) → u ≡ pos 0 → (r *ℤ r) ≤ℤ (x *ℤ x)
    → (m *ℤ m *ℤ (r *ℤ r)) ≤ℤ ((m *ℤ x -ℤ k *ℤ u) *ℤ (m *ℤ x -ℤ k *ℤ u) +ℤ (m *ℤ y -ℤ k *ℤ w) *ℤ (m *ℤ y -ℤ k *ℤ w))
upright_off x y u w r k m none far =
    subst (λ v. (m *ℤ m *ℤ (r *ℤ r)) ≤ℤ ((m *ℤ x -ℤ k *ℤ v) *ℤ (m *ℤ x -ℤ k *ℤ v) +ℤ (m *ℤ y -ℤ k *ℤ w) *ℤ (m *ℤ y -ℤ k *ℤ w))) (sym none)
    (shown (x ∷ y ∷ w ∷ r ∷ k ∷ m ∷ [])
    (sum_nonneg _ _ (product_nonneg _ (m *ℤ m) (gap_nonneg _ _ far) (square_nonneg m)) (square_nonneg (m *ℤ y -ℤ k *ℤ w)))
    (search quotes depth 40 fits 20000) tt)

clear_below : (at : V2) (r : ℕ) (s : Segment) → (s.b.y -ℤ s.a.y) ≡ pos 0 → pos r ≤ℤ (at.y -ℤ s.a.y) → IsClear at r s
clear_below at r s level far k m low high some = level_off _ _ _ _ (pos r) k m level (far_square (pos r) _ (omega (arith, ints)) far)

clear_left : (at : V2) (r : ℕ) (s : Segment) → (s.b.x -ℤ s.a.x) ≡ pos 0 → pos r ≤ℤ (at.x -ℤ s.a.x) → IsClear at r s
clear_left at r s upright far k m low high some = upright_off _ _ _ _ (pos r) k m upright (far_square (pos r) _ (omega (arith, ints)) far)

-- from the other side
neg_square : (z : ℤ) → (neg_ℤ z *ℤ neg_ℤ z) ≤ℤ (z *ℤ z)
neg_square z = shown (z ∷ []) (square_nonneg (pos 0)) (search quotes depth 40 fits 20000) tt

far_square_other : (r z : ℤ) → pos 0 ≤ℤ r → r ≤ℤ neg_ℤ z → (r *ℤ r) ≤ℤ (z *ℤ z)
far_square_other r z some h = omega (arith, ints, far_square r (neg_ℤ z) some h, neg_square z)

clear_above : (at : V2) (r : ℕ) (s : Segment) → (s.b.y -ℤ s.a.y) ≡ pos 0 → pos r ≤ℤ neg_ℤ (at.y -ℤ s.a.y) → IsClear at r s
clear_above at r s level far k m low high some = level_off _ _ _ _ (pos r) k m level (far_square_other (pos r) _ (omega (arith, ints)) far)

clear_right : (at : V2) (r : ℕ) (s : Segment) → (s.b.x -ℤ s.a.x) ≡ pos 0 → pos r ≤ℤ neg_ℤ (at.x -ℤ s.a.x) → IsClear at r s
clear_right at r s upright far k m low high some = upright_off _ _ _ _ (pos r) k m upright (far_square_other (pos r) _ (omega (arith, ints)) far)

all_four : (P : Segment → Type 0) (a b c d : Segment) → P a → P b → P c → P d → All P (a ∷ b ∷ c ∷ d ∷ [])
all_four P a b c d p q r s = All-cons P a (b ∷ c ∷ d ∷ []) p (All-cons P b (c ∷ d ∷ []) q (All-cons P c (d ∷ []) r (All-cons P d [] s (All-nil P))))

placed_clear : (side : ℕ) (agent : Agent) → IsPlaced side agent → All (IsClear agent.pos agent.radius) (generated_segments side)
unfolding generated_segments
placed_clear side agent placed =
    let h = half_width side in
    all_four (IsClear agent.pos agent.radius) (lower_wall h) (right_wall h) (upper_wall h) (left_wall h)
    (clear_below agent.pos agent.radius (lower_wall h) (omega (arith, ints)) (omega (arith, ints, placed.y.low, placed.radius)))
    (clear_right agent.pos agent.radius (right_wall h) (omega (arith, ints)) (omega (arith, ints, placed.x.high, placed.radius)))
    (clear_above agent.pos agent.radius (upper_wall h) (omega (arith, ints)) (omega (arith, ints, placed.y.high, placed.radius)))
    (clear_left agent.pos agent.radius (left_wall h) (omega (arith, ints)) (omega (arith, ints, placed.x.low, placed.radius)))

segments_fit : (side : ℕ) → side ≤ MOST_COLUMNS → All IsSegment (generated_segments side)
unfolding generated_segments
segments_fit side few =
    let h = half_width side in
    let low : unsigned_abs (neg_ℤ h) ≤ GREATEST_COORDINATE = omega (arith, ints) in
    let high : unsigned_abs h ≤ GREATEST_COORDINATE = omega (arith, ints) in
    all_four IsSegment (lower_wall h) (right_wall h) (upper_wall h) (left_wall h)
    (record { a = (low, low); b = (high, low) }) (record { a = (high, low); b = (high, high) }) (record { a = (high, high); b = (low, high) }) (record { a = (low, high); b = (low, low) })

four_segments : (side : ℕ) → length (generated_segments side) ≤ MOST_SEGMENTS
unfolding generated_segments
four_segments side = omega arith

-- ---- posts

module _ (agents steps : ℕ) (some : 1 ≤ agents) where
  post_fit : (frame s : ℕ) → 1 ≤ frame → frame ≤ steps → IsScriptPost steps agents (generated_post agents frame s)
  unfolding generated_post
  post_fit frame s low high = record {
    some_frame = low;
    frame = high;
    agent = drawn_lt s 1 agents some;
    vel = velocity_fit _ _ (drawn_lt s 2 401 (omega arith)) (drawn_lt s 3 401 (omega arith));
  }

  posts_fit : (frame left s : ℕ) → 1 ≤ frame → frame + 10 * left ≤ steps + 10 → All (IsScriptPost steps agents) (generated_posts agents frame left s)
  unfolding generated_posts
  posts_fit frame zero s low high = All-nil (IsScriptPost steps agents)
  posts_fit frame (suc left) s low high =
      All-cons (IsScriptPost steps agents) _ _ (post_fit frame s low (omega arith)) (posts_fit (frame + 10) left (state_after 3 s) (omega arith) (omega arith))

frame_is : (agents frame s : ℕ) → (generated_post agents frame s).frame ≡ frame
unfolding generated_post
frame_is agents frame s = refl

-- no frame is below the first
frames_from : (agents first frame left s : ℕ) → first ≤ frame → All (λ (p : ScriptPost). first ≤ p.frame) (generated_posts agents frame left s)
unfolding generated_posts
frames_from agents first frame zero s h = All-nil (λ (p : ScriptPost). first ≤ p.frame)
frames_from agents first frame (suc left) s h =
    All-cons (λ (p : ScriptPost). first ≤ p.frame) _ _ (omega (arith, frame_is agents frame s)) (frames_from agents first (frame + 10) left (state_after 3 s) (omega arith))

posts_in_order : (agents frame left s : ℕ) → AllPairs (λ (p : ScriptPost) (q : ScriptPost). p.frame ≤ q.frame) (generated_posts agents frame left s)
unfolding generated_posts
posts_in_order agents frame zero s = λ i j d before within. absurd (omega (arith, within))
posts_in_order agents frame (suc left) s =
    AllPairs-cons (λ (p : ScriptPost) (q : ScriptPost). p.frame ≤ q.frame) (generated_post agents frame s) (generated_posts agents (frame + 10) left (state_after 3 s))
    (subst (λ f. All (λ (q : ScriptPost). f ≤ q.frame) (generated_posts agents (frame + 10) left (state_after 3 s))) (sym (frame_is agents frame s))
    (frames_from agents frame (frame + 10) left (state_after 3 s) (omega arith)))
    (posts_in_order agents (frame + 10) left (state_after 3 s))

length-generated_posts : (agents frame left s : ℕ) → length (generated_posts agents frame left s) ≡ left
unfolding generated_posts
length-generated_posts agents frame zero s = refl
length-generated_posts agents frame (suc left) s = ap suc (length-generated_posts agents (frame + 10) left (state_after 3 s))

-- ---- goals

opposite_inside : (side : ℕ) (v : V2) → side ≤ MOST_COLUMNS → IsInside side v.x → IsInside side v.y → IsPosition (opposite v)
opposite_inside side v few x y = (omega (arith, ints, x.low, x.high), omega (arith, ints, y.low, y.high))

module _ (side count : ℕ) (few : side ≤ MOST_COLUMNS) where
  goal_fit : (number : ℕ) (agent : Agent) → number < count → IsPlaced side agent → IsGoal count (generated_goal number agent)
  goal_fit number agent h placed = record {
    controller = omega (arith, mod-lt number {m = 4} (omega arith));
    agent = h;
    at = opposite_inside side agent.pos few placed.x placed.y;
    pace = placed.fit.build.speed;
  }

  goals_fit : (number : ℕ) (agents : List Agent) → number + length agents ≤ count → All (IsPlaced side) agents → All (IsGoal count) (generated_goals number agents)
  unfolding generated_goals
  goals_fit number [] h placed = All-nil (IsGoal count)
  goals_fit number (agent ∷ rest) h placed =
      All-cons (IsGoal count) _ _ (goal_fit number agent (omega (arith, h)) (All-head (IsPlaced side) agent rest placed))
      (goals_fit (number + 1) rest (omega (arith, h)) (All-tail (IsPlaced side) agent rest placed))

goals_above : (least number : ℕ) (agents : List Agent) → least < number → All (λ (g : Goal). least ≢ g.agent) (generated_goals number agents)
unfolding generated_goals
goals_above least number [] h = All-nil (λ (g : Goal). least ≢ g.agent)
goals_above least number (agent ∷ rest) h =
    All-cons (λ (g : Goal). least ≢ g.agent) _ _ (λ same. absurd (omega (arith, same))) (goals_above least (number + 1) rest (omega arith))

goals_apart : (number : ℕ) (agents : List Agent) → AllPairs (λ (g : Goal) (h : Goal). g.agent ≢ h.agent) (generated_goals number agents)
unfolding generated_goals
goals_apart number [] = λ i j d before within. absurd (omega (arith, within))
goals_apart number (agent ∷ rest) =
    AllPairs-cons (λ (g : Goal) (h : Goal). g.agent ≢ h.agent) (generated_goal number agent) (generated_goals (number + 1) rest)
    (goals_above number (number + 1) rest (omega arith)) (goals_apart (number + 1) rest)

-- ---- all parts

pub some_columns : (agents : ℕ) → 1 ≤ agents → 1 ≤ ceil_root agents
some_columns agents some = by (ceil_root agents) (ceil_root_reaches agents)
  where
    by : (r : ℕ) → agents ≤ r * r → 1 ≤ r
    by zero h = absurd (omega arith)
    by (suc r) h = omega arith

pub few_columns : (agents : ℕ) → agents ≤ MOST_AGENTS → ceil_root agents ≤ MOST_COLUMNS
few_columns agents few = by (ceil_root agents) (ceil_root_first agents MOST_COLUMNS)
  where
    by : (r : ℕ) → (MOST_COLUMNS < r → MOST_COLUMNS * MOST_COLUMNS < agents) → r ≤ MOST_COLUMNS
    by r first = ⊎_elim (λ more. absurd (omega (arith, first more))) (λ h. h) (cases_lt MOST_COLUMNS r)

-- the agents alone
pub agents_fit : (number agents : ℕ) → 1 ≤ agents → agents ≤ MOST_AGENTS → All IsAgent (generated_agents (ceil_root agents) 0 agents number)
agents_fit number agents some few = λ k d h.
    (agents_placed (ceil_root agents) 0 agents number (some_columns agents some) (few_columns agents few) (omega (arith, ceil_root_reaches agents)) k d h).fit

pub generated_valid : (number agents steps : ℕ) → 1 ≤ agents → agents ≤ MOST_AGENTS → steps ≤ MOST_STEPS → IsValid (generated number agents steps)
generated_valid number agents steps some few few_steps =
    let side = ceil_root agents in
    let columns = few_columns agents few in
    let crowd = generated_agents side 0 agents number in
    let count = length-generated_agents side 0 agents number in
    let placed = agents_placed side 0 agents number (some_columns agents some) columns (omega (arith, ceil_root_reaches agents)) in
    let s = state_after (6 * agents) number in
    record {
      version = inl refl;
      ring = inl refl;
      plain = λ e. record { ring_is = refl; weights = λ k d h. (placed k d h).plain };
      steps = few_steps;
      agent_count = omega (arith, count);
      segment_count = four_segments side;
      post_count = omega (arith, length-generated_posts agents 10 (steps / 10) s);
      agents = λ k d h. (placed k d h).fit;
      segments = segments_fit side columns;
      posts = subst (λ n. All (IsScriptPost steps n) (generated_posts agents 10 (steps / 10) s)) (sym count) (posts_fit agents steps some 10 (steps / 10) s (omega arith) (omega arith));
      post_order = posts_in_order agents 10 (steps / 10) s;
      goals = goals_fit side (length crowd) columns 0 crowd (omega arith) placed;
      one_goal = goals_apart 0 crowd;
      clear = λ k d h. placed_clear side _ (placed k d h);
    }

-- parts that were made one after another
pub parts_are : (number agents steps side state : ℕ) (crowd : List Agent) (segments : List Segment) (posts : List ScriptPost) (goals : List Goal) → side ≡ ceil_root agents
    → crowd ≡ generated_agents side 0 agents number → state ≡ state_after (6 * agents) number → segments ≡ generated_segments side
    → posts ≡ generated_posts agents 10 (steps / 10) state → goals ≡ generated_goals 0 crowd
    → ◌≡◌ {A = Parts} (record { version = FIRST_VERSION; ring = PLAIN_RING; steps = steps; agents = crowd; segments = segments; posts = posts; goals = goals }) (generated number agents steps)
parts_are number agents steps side state crowd segments posts goals is_side is_crowd is_state is_segments is_posts is_goals =
    rw (is_goals, is_posts, is_segments, is_state, is_crowd, is_side) refl
