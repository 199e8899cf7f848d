-- Posts set preferred velocities alone.
use Rattle.std.proofs.Common.{◌≡◌, ◌∙◌, ◌<◌, ◌+◌, ℕ, zero, suc, Bool, true, false, cond, eqb, eq-eqb, List, [], ◌∷◌, length, map, refl, arith}
use Rattle.std.specs.Prelude.{slice_set}
use Rattle.std.proofs.lemmas.Bool.{ne_eqb}
use Rattle.fixed_vec.specs.declared.vector.V2.{V2}
use Rattle.crowd_data.specs.declared.agent.Agent.{Agent}
use Rattle.crowd_data.specs.declared.frame.Body.{Body}
use Rattle.crowd_data.specs.declared.post.Post.{Post}
use Rattle.crowd_data.specs.Advice.{place_of}
use Rattle.crowd_data.specs.Present.{AreNumbered}
use Rattle.crowd_data.specs.Run.{after_post, after_posts, body_at, crowd_of, standing}

-- what one post leaves as it is, all posts leave
unposted : {X : Type 0} (F : List Body → X) → ((post : Post) (bodies : List Body) → F (after_post post bodies) ≡ F bodies)
    → (posts : List Post) (bodies : List Body) → F (after_posts posts bodies) ≡ F bodies
unposted F one [] bodies = refl
unposted F one (post ∷ rest) bodies = unposted F one rest (after_post post bodies) ∙ one post bodies

-- a body after a post that may be its own
abbrev posted : Post → Body → Bool → Body
posted post body own = cond own (record body { pref = post.vel }) body

length_after : (post : Post) (bodies : List Body) → length (after_post post bodies) ≡ length bodies
length_after post [] = refl
length_after post (body ∷ bodies) = let e = length_after post bodies in omega (arith, e)

module _ {X : Type 0} (F : Body → X) (same : (body : Body) (vel : V2) → F (record body { pref = vel }) ≡ F body) where
  one_body : (post : Post) (body : Body) (own : Bool) → F (posted post body own) ≡ F body
  one_body post body true = same body post.vel
  one_body post body false = refl

  at_after : (who : ℕ) (post : Post) (bodies : List Body) → F (body_at (after_post post bodies) who) ≡ F (body_at bodies who)
  at_after who post [] = refl
  at_after zero post (body ∷ bodies) = one_body post body (eqb body.agent post.agent)
  at_after (suc who) post (body ∷ bodies) = at_after who post bodies

  at_after_posts : (who : ℕ) (posts : List Post) (bodies : List Body) → F (body_at (after_posts posts bodies) who) ≡ F (body_at bodies who)
  at_after_posts who posts bodies = unposted (λ (b : List Body). F (body_at b who)) (at_after who) posts bodies

-- as many bodies, where they were, with the numbers and velocities that they had
pub length-after_posts : (posts : List Post) (bodies : List Body) → length (after_posts posts bodies) ≡ length bodies
length-after_posts posts bodies = unposted length length_after posts bodies

pub pos-after_posts : (who : ℕ) (posts : List Post) (bodies : List Body) → (body_at (after_posts posts bodies) who).pos ≡ (body_at bodies who).pos
pos-after_posts = at_after_posts (λ (body : Body). body.pos) (λ body vel. refl)

pub vel-after_posts : (who : ℕ) (posts : List Post) (bodies : List Body) → (body_at (after_posts posts bodies) who).vel ≡ (body_at bodies who).vel
vel-after_posts = at_after_posts (λ (body : Body). body.vel) (λ body vel. refl)

pub agent-after_posts : (who : ℕ) (posts : List Post) (bodies : List Body) → (body_at (after_posts posts bodies) who).agent ≡ (body_at bodies who).agent
agent-after_posts = at_after_posts (λ (body : Body). body.agent) (λ body vel. refl)

-- and their agents' places
place_one : (agent : Agent) (post : Post) (body : Body) (own : Bool) → place_of (standing agent (posted post body own)) ≡ place_of (standing agent body)
place_one agent post body true = refl
place_one agent post body false = refl

places_after : (agents : List Agent) (post : Post) (bodies : List Body) → map place_of (crowd_of agents (after_post post bodies)) ≡ map place_of (crowd_of agents bodies)
places_after [] post bodies = refl
places_after (agent ∷ agents) post [] = refl
places_after (agent ∷ agents) post (body ∷ bodies) =
    let first = place_one agent post body (eqb body.agent post.agent) in
    let rest = places_after agents post bodies in
    λ i. first i ∷ rest i

pub places-after_posts : (agents : List Agent) (posts : List Post) (bodies : List Body)
    → map place_of (crowd_of agents (after_posts posts bodies)) ≡ map place_of (crowd_of agents bodies)
places-after_posts agents posts bodies = unposted (λ (b : List Body). map place_of (crowd_of agents b)) (places_after agents) posts bodies

-- ---- a post among bodies in order of number changes the body at its agent's place

-- the bodies are numbered from here on
abbrev NumberedFrom : ℕ → List Body → Type 0
NumberedFrom n bodies = (k : ℕ) → k < length bodies → (body_at bodies k).agent ≡ n + k

rest_numbered : (n : ℕ) (body : Body) (bodies : List Body) → NumberedFrom n (body ∷ bodies) → NumberedFrom (suc n) bodies
rest_numbered n body bodies numbered k h = let e = numbered (suc k) (omega (arith, h)) in omega (arith, e)

-- a post for none of them changes nothing
before_all : (n : ℕ) (post : Post) (bodies : List Body) → post.agent < n → NumberedFrom n bodies → after_post post bodies ≡ bodies
before_all n post [] h numbered = refl
before_all n post (body ∷ bodies) h numbered =
    let e = numbered zero (omega arith) in
    let first : eqb body.agent post.agent ≡ false = ne_eqb body.agent post.agent (λ same. absurd (omega (arith, same, e, h))) in
    let rest = before_all (suc n) post bodies (omega (arith, h)) (rest_numbered n body bodies numbered) in
    λ i. posted post body (first i) ∷ rest i

set_from : (n k : ℕ) (post : Post) (bodies : List Body) → post.agent ≡ n + k → k < length bodies → NumberedFrom n bodies
    → after_post post bodies ≡ slice_set bodies k (record (body_at bodies k) { pref = post.vel })
set_from n k post [] e h numbered = absurd (omega (arith, h))
set_from n zero post (body ∷ bodies) e h numbered =
    let f = numbered zero (omega arith) in
    let first : eqb body.agent post.agent ≡ true = eq-eqb body.agent post.agent (omega (arith, e, f)) in
    let rest = before_all (suc n) post bodies (omega (arith, e)) (rest_numbered n body bodies numbered) in
    λ i. posted post body (first i) ∷ rest i
set_from n (suc k) post (body ∷ bodies) e h numbered =
    let f = numbered zero (omega arith) in
    let first : eqb body.agent post.agent ≡ false = ne_eqb body.agent post.agent (λ same. absurd (omega (arith, same, e, f))) in
    let rest = set_from (suc n) k post bodies (omega (arith, e)) (omega (arith, h)) (rest_numbered n body bodies numbered) in
    λ i. posted post body (first i) ∷ rest i

pub after_post-set : (post : Post) (bodies : List Body) → post.agent < length bodies → AreNumbered bodies
    → after_post post bodies ≡ slice_set bodies post.agent (record (body_at bodies post.agent) { pref = post.vel })
after_post-set post bodies h numbered = set_from 0 post.agent post bodies (omega arith) h (λ k l. let e = numbered k l in omega (arith, e))
