-- Generated lists, one item at a time.
use Rattle.std.proofs.Common.{◌≡◌, ◌∙◌, ◌<◌, ◌≤◌, ◌+◌, ◌-◌, ◌*◌, ◌%◌, ℕ, zero, suc, List, [], ◌∷◌, ◌++◌, length, drop, get_or, append_assoc, add-one, drop-cons, sym, ap, refl, arith}
use Rattle.std.proofs.lemmas.List.{append-nil, drop_all}
use Rattle.fixed_vec.specs.declared.vector.V2.{V2}
use Rattle.fixed_vec.specs.Vector.{zero_vector}
use Rattle.crowd_data.specs.declared.agent.Agent.{Agent}
use Rattle.crowd_data.specs.declared.post.ScriptPost.{ScriptPost}
use Rattle.crowd_data.specs.declared.post.Goal.{Goal}
use Rattle.scenario_read.specs.Generator.{generated_agent, generated_agents, generated_goal, generated_goals, generated_post, generated_posts, next_state, place, state_after, velocity}

-- draws behind draws
state_after-add : (a b s : ℕ) → state_after (a + b) s ≡ state_after b (state_after a s)
unfolding state_after
state_after-add zero b s = ap (λ n. state_after n s) (let e : 0 + b ≡ b = omega arith in e)
state_after-add (suc a) b s = ap (λ n. state_after n s) (let e : suc a + b ≡ suc (a + b) = omega arith in e) ∙ state_after-add a b (next_state s)

-- six draws more
pub six_more : (n s t u : ℕ) → t ≡ state_after (6 * n) s → u ≡ state_after 6 t → u ≡ state_after (6 * (n + 1)) s
six_more n s t u e f =
    f ∙ ap (state_after 6) e ∙ sym (state_after-add (6 * n) 6 s) ∙ ap (λ m. state_after m s) (let e : 6 * n + 6 ≡ 6 * (n + 1) = omega arith in e)

pub all_left : (n : ℕ) → n - 0 ≡ n
all_left n = omega arith

pub no_draws : (s : ℕ) → s ≡ state_after (6 * 0) s
unfolding state_after
no_draws s = refl

one_left : (count number : ℕ) → number < count → count - number ≡ suc (count - (number + 1))
one_left count number h = omega arith

none_left : (count number : ℕ) → count ≤ number → count - number ≡ 0
none_left count number h = omega arith

-- ---- agents

-- an agent, from the states behind its draws
pub agent_is : (side number s : ℕ) (at : V2) (radius speed t u v : ℕ) (pref : V2) → at ≡ place side number s → t ≡ state_after 2 s → u ≡ next_state t → radius ≡ u % 501
    → v ≡ next_state u → speed ≡ v % 201 → pref ≡ velocity (state_after 1 v % 401) (state_after 2 v % 401)
    → record {
      pos = at;
      vel = zero_vector;
      pref = pref;
      radius = 500 + radius;
      speed = 200 + speed;
      range = 15000;
      most = 10;
      horizon = 40;
      wall_horizon = 10;
      weight = 1;
    } ≡ generated_agent side number s
unfolding generated_agent state_after
agent_is side number s at radius speed t u v pref is_at is_t is_u is_radius is_v is_speed is_pref =
    rw (is_at, is_radius, is_speed, is_pref, is_v, is_u, is_t) refl

module _ (side : ℕ) where
  agents_next : (number left s : ℕ) → generated_agents side number (suc left) s ≡ generated_agent side number s ∷ generated_agents side (number + 1) left (state_after 6 s)
  unfolding generated_agents
  agents_next number left s = refl

  agents_none : (number s : ℕ) → generated_agents side number 0 s ≡ []
  unfolding generated_agents
  agents_none number s = refl

  pub agents_more : (done total : List Agent) (number count s t : ℕ) (a : Agent) → number < count → a ≡ generated_agent side number s → t ≡ state_after 6 s
      → done ++ generated_agents side number (count - number) s ≡ total → (done ++ a ∷ []) ++ generated_agents side (number + 1) (count - (number + 1)) t ≡ total
  agents_more done total number count s t a h is is_state e =
      let rest = generated_agents side (number + 1) (count - (number + 1)) t in
      append_assoc done (a ∷ []) rest
      ∙ ap (λ (ys : List Agent). done ++ ys)
      (ap (λ (b : Agent). b ∷ rest) is
      ∙ ap (λ u. generated_agent side number s ∷ generated_agents side (number + 1) (count - (number + 1)) u) is_state
      ∙ sym (ap (λ n. generated_agents side number n s) (one_left count number h) ∙ agents_next number (count - (number + 1)) s))
      ∙ e

  pub agents_all : (done total : List Agent) (number count s : ℕ) → count ≤ number → done ++ generated_agents side number (count - number) s ≡ total → done ≡ total
  agents_all done total number count s h e =
      sym (ap (λ (ys : List Agent). done ++ ys) (ap (λ n. generated_agents side number n s) (none_left count number h) ∙ agents_none number s) ∙ append-nil done) ∙ e

-- ---- posts

module _ (agents : ℕ) where
  posts_next : (frame left s : ℕ) → generated_posts agents frame (suc left) s ≡ generated_post agents frame s ∷ generated_posts agents (frame + 10) left (state_after 3 s)
  unfolding generated_posts
  posts_next frame left s = refl

  posts_none : (frame s : ℕ) → generated_posts agents frame 0 s ≡ []
  unfolding generated_posts
  posts_none frame s = refl

  pub posts_more : (done total : List ScriptPost) (place count s t : ℕ) (p : ScriptPost) → place < count → p ≡ generated_post agents (10 * place + 10) s → t ≡ state_after 3 s
      → done ++ generated_posts agents (10 * place + 10) (count - place) s ≡ total
      → (done ++ p ∷ []) ++ generated_posts agents (10 * (place + 1) + 10) (count - (place + 1)) t ≡ total
  posts_more done total place count s t p h is is_state e =
      let rest = generated_posts agents (10 * (place + 1) + 10) (count - (place + 1)) t in
      append_assoc done (p ∷ []) rest
      ∙ ap (λ (ys : List ScriptPost). done ++ ys)
      (ap (λ (b : ScriptPost). b ∷ rest) is
      ∙ ap (λ u. generated_post agents (10 * place + 10) s ∷ generated_posts agents (10 * (place + 1) + 10) (count - (place + 1)) u) is_state
      ∙ ap (λ f. generated_post agents (10 * place + 10) s ∷ generated_posts agents f (count - (place + 1)) (state_after 3 s))
      (let e : 10 * (place + 1) + 10 ≡ 10 * place + 10 + 10 = omega arith in e)
      ∙ sym (ap (λ n. generated_posts agents (10 * place + 10) n s) (one_left count place h) ∙ posts_next (10 * place + 10) (count - (place + 1)) s))
      ∙ e

  pub posts_all : (done total : List ScriptPost) (place frame count s : ℕ) → count ≤ place → done ++ generated_posts agents frame (count - place) s ≡ total → done ≡ total
  posts_all done total place frame count s h e =
      sym (ap (λ (ys : List ScriptPost). done ++ ys) (ap (λ n. generated_posts agents frame n s) (none_left count place h) ∙ posts_none frame s) ∙ append-nil done) ∙ e

-- ---- goals

goals_next : (number : ℕ) (agent : Agent) (rest : List Agent) → generated_goals number (agent ∷ rest) ≡ generated_goal number agent ∷ generated_goals (number + 1) rest
unfolding generated_goals
goals_next number agent rest = refl

goals_none : (number : ℕ) → generated_goals number [] ≡ []
unfolding generated_goals
goals_none number = refl

pub goals_more : (agents : List Agent) (done total : List Goal) (number : ℕ) (d : Agent) (g : Goal) → number < length agents → g ≡ generated_goal number (get_or agents number d)
    → done ++ generated_goals number (drop number agents) ≡ total → (done ++ g ∷ []) ++ generated_goals (number + 1) (drop (number + 1) agents) ≡ total
goals_more agents done total number d g h is e =
    let rest = generated_goals (number + 1) (drop (number + 1) agents) in
    let cut : drop number agents ≡ get_or agents number d ∷ drop (number + 1) agents = rw (add-one, drop-cons agents number d h) refl in
    append_assoc done (g ∷ []) rest
    ∙ ap (λ (ys : List Goal). done ++ ys)
    (ap (λ (b : Goal). b ∷ rest) is ∙ sym (ap (λ (xs : List Agent). generated_goals number xs) cut ∙ goals_next number (get_or agents number d) (drop (number + 1) agents)))
    ∙ e

pub goals_all : (agents : List Agent) (done total : List Goal) (number : ℕ) → length agents ≤ number → done ++ generated_goals number (drop number agents) ≡ total → done ≡ total
goals_all agents done total number h e =
    sym (ap (λ (ys : List Goal). done ++ ys) (ap (λ (xs : List Agent). generated_goals number xs) (drop_all number agents h) ∙ goals_none number) ∙ append-nil done) ∙ e
