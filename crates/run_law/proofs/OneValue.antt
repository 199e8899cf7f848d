-- Advice, next frames and runs have one value.
use Rattle.std.proofs.Common.{◌≡◌, ◌∙◌, ◌⊎◌, inl, inr, ⊎_elim, ℕ, zero, suc, ◌<◌, List, [], ◌∷◌, length, refl, sym, subst, arith}
use Rattle.std.proofs.lemmas.Bool.{cases_eq, cases_lt}
use Rattle.fixed_vec.specs.declared.vector.V2.{V2}
use Rattle.fixed_vec.specs.Vector.{plus}
use Rattle.crowd_data.specs.declared.agent.Agent.{Agent}
use Rattle.crowd_data.specs.declared.frame.Body.{Body}
use Rattle.crowd_data.specs.declared.frame.Mark.{Mark}
use Rattle.crowd_data.specs.declared.post.Post.{Post}
use Rattle.crowd_data.specs.Advice.{GivesWay, IsAdvice, IsMarked, StandsStill, agent_at, planes_at}
use Rattle.crowd_data.specs.Run.{Follow, IsMoved, IsNext, IsRun, Snapshot, after_posts, body_at, crowd_of}
use Rattle.crowd_data.specs.Scenario.{Parts}
use Rattle.planar_program.proofs.OneValue.{nearest-rounded}
use Rattle.run_law.proofs.SomeMark.{crowded_or_not}

-- ---- advice

module _ (scenario : Parts) (crowd : List Agent) (who : ℕ) where
  -- a velocity, a mark and a relief, but for crowding
  abbrev Way : V2 → Mark → ℕ → Type 0
  Way vel mark relief = StandsStill scenario crowd who vel mark relief ⊎ GivesWay scenario crowd who vel mark relief

  -- no smaller relief does
  no_less : (vel other_vel : V2) (mark other_mark : Mark) (relief other : ℕ) → GivesWay scenario crowd who vel mark relief → GivesWay scenario crowd who other_vel other_mark other → other < relief → ⊥
  no_less vel other_vel mark other_mark relief other one two less = one.least other less two.nearest.0 two.nearest.1.meets

  one_relief : (vel other_vel : V2) (mark other_mark : Mark) (relief other : ℕ) → GivesWay scenario crowd who vel mark relief → GivesWay scenario crowd who other_vel other_mark other → relief ≡ other
  one_relief vel other_vel mark other_mark relief other one two = ⊎_elim
      (λ less. absurd (no_less other_vel vel other_mark mark other relief two one less))
      (λ more. ⊎_elim (λ less. absurd (no_less vel other_vel mark other_mark relief other one two less)) (λ least. omega (arith, more, least)) (cases_lt other relief))
      (cases_lt relief other)

  one_plain : (vel other_vel : V2) (mark other_mark : Mark) (relief other : ℕ) → GivesWay scenario crowd who vel mark relief → GivesWay scenario crowd who other_vel other_mark other → relief ≡ other → mark ≡ other_mark
  one_plain vel other_vel mark other_mark relief other one two e = ⊎_elim
      (λ none. one.feasible none ∙ sym (two.feasible (sym e ∙ none)))
      (λ some. one.fallback some ∙ sym (two.fallback (λ none. some (e ∙ none))))
      (cases_eq relief 0)

  one_way : (vel other_vel : V2) (mark other_mark : Mark) (relief other : ℕ) → Way vel mark relief → Way other_vel other_mark other
      → (vel ≡ other_vel) × (mark ≡ other_mark) × (relief ≡ other)
  one_way vel other_vel mark other_mark relief other (inl one) (inl two) = (one.still ∙ sym two.still, one.stopped ∙ sym two.stopped, one.unrelieved ∙ sym two.unrelieved)
  one_way vel other_vel mark other_mark relief other (inl one) (inr two) = absurd (one.no_room two.room.0 two.room.1)
  one_way vel other_vel mark other_mark relief other (inr one) (inl two) = absurd (two.no_room one.room.0 one.room.1)
  one_way vel other_vel mark other_mark relief other (inr one) (inr two) =
      let e = one_relief vel other_vel mark other_mark relief other one two in
      let there = subst (λ d. GivesWay scenario crowd who other_vel other_mark d) (sym e) two in (
        one.nearest.2 ∙ nearest-rounded (planes_at scenario crowd who relief) (agent_at crowd who).pref one.nearest.0 there.nearest.0 one.nearest.1 there.nearest.1 ∙ sym there.nearest.2,
        one_plain vel other_vel mark other_mark relief other one two e,
        e,
      )

  one_mark : (plain mark other : Mark) → IsMarked crowd who plain mark → IsMarked crowd who plain other → mark ≡ other
  one_mark plain mark other one two = ⊎_elim
      (λ crowded. one.when_crowded crowded ∙ sym (two.when_crowded crowded))
      (λ roomy. one.otherwise roomy ∙ sym (two.otherwise roomy))
      (crowded_or_not crowd who)

  pub one_advice : (vel other_vel : V2) (mark other_mark : Mark) (relief other : ℕ) → IsAdvice scenario crowd who vel mark relief → IsAdvice scenario crowd who other_vel other_mark other
      → (vel ≡ other_vel) × (mark ≡ other_mark) × (relief ≡ other)
  one_advice vel other_vel mark other_mark relief other (plain, way, marked) (other_plain, other_way, other_marked) =
      let (v, p, r) = one_way vel other_vel plain other_plain relief other way other_way in
      (v, one_mark plain mark other_mark marked (subst (λ m. IsMarked crowd who m other_mark) (sym p) other_marked), r)

-- ---- next frames

one_body : (scenario : Parts) (crowd : List Agent) (who : ℕ) (before after other : Body) → IsMoved scenario crowd who before after → IsMoved scenario crowd who before other → after ≡ other
one_body scenario crowd who before after other one two =
    let (vel, mark, relief) = one_advice scenario crowd who after.vel other.vel after.mark other.mark after.relief other.relief one.advice two.advice in
    let agent = one.agent ∙ sym two.agent in
    let pref = one.pref ∙ sym two.pref in
    let at = one.pos ∙ (λ i. plus before.pos (vel i)) ∙ sym two.pos in
    λ i. record { agent = agent i; pos = at i; vel = vel i; pref = pref i; mark = mark i; relief = relief i }

-- lists with the same bodies at each place
one_list : (xs ys : List Body) → length xs ≡ length ys → ((k : ℕ) → k < length xs → body_at xs k ≡ body_at ys k) → xs ≡ ys
one_list [] [] e same = refl
one_list [] (y ∷ ys) e same = absurd (omega (arith, e))
one_list (x ∷ xs) [] e same = absurd (omega (arith, e))
one_list (x ∷ xs) (y ∷ ys) e same =
    let first = same zero (omega arith) in
    let rest = one_list xs ys (omega (arith, e)) (λ k h. same (suc k) (omega (arith, h))) in
    λ i. first i ∷ rest i

pub one_next : (scenario : Parts) (frame : Snapshot) (posts : List Post) (next other : Snapshot) → IsNext scenario frame posts next → IsNext scenario frame posts other → next ≡ other
one_next scenario frame posts next other one two =
    let number = one.number ∙ sym two.number in
    let bodies = one_list next.bodies other.bodies (one.bodies ∙ sym two.bodies)
    (λ who h. let here : who < length frame.bodies = omega (arith, one.bodies, h) in
    one_body scenario (crowd_of scenario.agents (after_posts posts frame.bodies)) who (body_at (after_posts posts frame.bodies) who) (body_at next.bodies who) (body_at other.bodies who) (one.moved who here) (two.moved who here)) in
    λ i. record { number = number i; bodies = bodies i }

-- ---- runs

one_follow : (scenario : Parts) (frame : Snapshot) (lists : List (List Post)) (rest others : List Snapshot) → Follow scenario frame lists rest → Follow scenario frame lists others → rest ≡ others
one_follow scenario frame [] [] [] one two = refl
one_follow scenario frame [] [] (other ∷ others) one two = absurd two
one_follow scenario frame [] (next ∷ rest) others one two = absurd one
one_follow scenario frame (posts ∷ lists) [] others one two = absurd one
one_follow scenario frame (posts ∷ lists) (next ∷ rest) [] one two = absurd two
one_follow scenario frame (posts ∷ lists) (next ∷ rest) (other ∷ others) one two =
    let first = one_next scenario frame posts next other one.0 two.0 in
    let more = one_follow scenario next lists rest others one.1 (subst (λ (n : Snapshot). Follow scenario n lists others) (sym first) two.1) in
    λ i. first i ∷ more i

pub one_run : (scenario : Parts) (lists : List (List Post)) (frames others : List Snapshot) → IsRun scenario lists frames → IsRun scenario lists others → frames ≡ others
one_run scenario lists [] others one two = absurd one
one_run scenario lists (first ∷ rest) [] one two = absurd two
one_run scenario lists (first ∷ rest) (other ∷ others) one two =
    let start = one.0 ∙ sym two.0 in
    let more = one_follow scenario first lists rest others one.1 (subst (λ (f : Snapshot). Follow scenario f lists others) (sym start) two.1) in
    λ i. start i ∷ more i
