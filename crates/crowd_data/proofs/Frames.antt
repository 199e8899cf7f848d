-- Frame 0 is present, and so is a frame whose posts were taken in.
use Rattle.std.proofs.Common.{◌≡◌, ◌∙◌, ◌<◌, ◌+◌, ℕ, zero, suc, Bool, true, false, cond, eqb, List, [], ◌∷◌, length, refl, sym, subst, arith}
use Rattle.std.specs.List.{All}
use Rattle.std.proofs.lemmas.List.Elements.{All-cons, All-head, All-nil, All-tail}
use Rattle.crowd_data.specs.declared.agent.Agent.{Agent}
use Rattle.crowd_data.specs.declared.frame.Body.{Body}
use Rattle.crowd_data.specs.declared.post.Post.{Post}
use Rattle.crowd_data.specs.Advice.{agent_at, nobody}
use Rattle.crowd_data.specs.Limits.{IsAgent, IsPost}
use Rattle.crowd_data.specs.Present.{AreNumbered, IsBody, IsPresent}
use Rattle.crowd_data.specs.Run.{Snapshot, after_post, after_posts, body_at, start_of, starting_bodies, starting_body}
use Rattle.crowd_data.specs.Scenario.{IsValid, Parts}
use Rattle.crowd_data.specs.Walls.{IsClear}
use Rattle.crowd_data.proofs.Posts.{agent-after_posts, length-after_posts, pos-after_posts}

-- ---- frame 0

pub length-starting_bodies : (number : ℕ) (agents : List Agent) → length (starting_bodies number agents) ≡ length agents
length-starting_bodies number [] = refl
length-starting_bodies number (agent ∷ rest) = let e = length-starting_bodies (number + 1) rest in omega (arith, e)

-- a starting body is where its agent is
pub pos-starting_bodies : (number : ℕ) (agents : List Agent) (who : ℕ) → who < length agents → (body_at (starting_bodies number agents) who).pos ≡ (agent_at agents who).pos
pos-starting_bodies number [] who h = absurd (omega arith)
pos-starting_bodies number (agent ∷ rest) zero h = refl
pos-starting_bodies number (agent ∷ rest) (suc who) h = pos-starting_bodies (number + 1) rest who (omega arith)

-- and bears its number
agent-starting_bodies : (number : ℕ) (agents : List Agent) (who : ℕ) → who < length agents → (body_at (starting_bodies number agents) who).agent ≡ number + who
agent-starting_bodies number [] who h = absurd (omega arith)
agent-starting_bodies number (agent ∷ rest) zero h = omega arith
agent-starting_bodies number (agent ∷ rest) (suc who) h = let e = agent-starting_bodies (number + 1) rest who (omega arith) in omega (arith, e)

starting_limits : (number : ℕ) (agents : List Agent) → All IsAgent agents → All (IsBody 0) (starting_bodies number agents)
starting_limits number [] all = All-nil (IsBody 0)
starting_limits number (agent ∷ agents) all =
    let first = All-head IsAgent agent agents all in
    All-cons (IsBody 0) (starting_body number agent) (starting_bodies (number + 1) agents) (record { pos = first.pos; vel = first.vel; pref = first.pref })
    (starting_limits (number + 1) agents (All-tail IsAgent agent agents all))

pub start_present : (scenario : Parts) → IsValid scenario → IsPresent scenario (start_of scenario)
start_present scenario valid =
    let full = length-starting_bodies 0 scenario.agents in
    record {
      number = omega arith;
      full = full;
      numbered = λ who h. let e = agent-starting_bodies 0 scenario.agents who (omega (arith, full, h)) in omega (arith, e);
      bodies = starting_limits 0 scenario.agents valid.agents;
      clear = λ who h.
          subst (λ at. All (IsClear at (agent_at scenario.agents who).radius) scenario.segments) (sym (pos-starting_bodies 0 scenario.agents who h)) (valid.clear who nobody h);
    }

-- ---- posts within their limits

limits_of_either : (number : ℕ) (post : Post) (agents : ℕ) (body : Body) (own : Bool) → IsPost agents post → IsBody number body → IsBody number (cond own (record body { pref = post.vel }) body)
limits_of_either number post agents body true sound limits = record { pos = limits.pos; vel = limits.vel; pref = sound.vel }
limits_of_either number post agents body false sound limits = limits

limits_after : (number : ℕ) (post : Post) (agents : ℕ) (bodies : List Body) → IsPost agents post → All (IsBody number) bodies → All (IsBody number) (after_post post bodies)
limits_after number post agents [] sound all = All-nil (IsBody number)
limits_after number post agents (body ∷ bodies) sound all =
    All-cons (IsBody number) (cond (eqb body.agent post.agent) (record body { pref = post.vel }) body) (after_post post bodies)
    (limits_of_either number post agents body (eqb body.agent post.agent) sound (All-head (IsBody number) body bodies all))
    (limits_after number post agents bodies sound (All-tail (IsBody number) body bodies all))

limits_after_posts : (number agents : ℕ) (posts : List Post) (bodies : List Body) → All (IsPost agents) posts → All (IsBody number) bodies → All (IsBody number) (after_posts posts bodies)
limits_after_posts number agents [] bodies sound all = all
limits_after_posts number agents (post ∷ rest) bodies sound all =
    limits_after_posts number agents rest (after_post post bodies) (All-tail (IsPost agents) post rest sound)
    (limits_after number post agents bodies (All-head (IsPost agents) post rest sound) all)

pub numbered-after_posts : (posts : List Post) (bodies : List Body) → AreNumbered bodies → AreNumbered (after_posts posts bodies)
numbered-after_posts posts bodies numbered who h = agent-after_posts who posts bodies ∙ numbered who (omega (arith, h, length-after_posts posts bodies))

-- a frame stays present when posts for its agents are taken in
pub posted_present : (scenario : Parts) (frame : Snapshot) (posts : List Post) → IsPresent scenario frame → All (IsPost (length scenario.agents)) posts
    → IsPresent scenario (record frame { bodies = after_posts posts frame.bodies })
posted_present scenario frame posts present sound = record {
  number = present.number;
  full = length-after_posts posts frame.bodies ∙ present.full;
  numbered = numbered-after_posts posts frame.bodies present.numbered;
  bodies = limits_after_posts frame.number (length scenario.agents) posts frame.bodies sound present.bodies;
  clear = λ who h. subst (λ at. All (IsClear at (agent_at scenario.agents who).radius) scenario.segments) (sym (pos-after_posts who posts frame.bodies)) (present.clear who h);
}
