-- What a step more does to a history: its frame, its bodies, its posts.
use Rattle.std.proofs.Common.{ℕ, zero, suc, ◌≡◌, ◌+◌, ◌<◌, ◌≤◌, Bool, true, false, cond, eqb, min, List, [], ◌∷◌, ◌++◌, length, map, refl, ap, sym, ◌∙◌, arith, append_assoc, length-append}
use Rattle.std.proofs.lemmas.List.{append-nil}
use Rattle.std.proofs.lemmas.List.Elements.{filter-append}
use Rattle.fixed_vec.specs.declared.vector.V2.{V2}
use Rattle.crowd_data.specs.declared.frame.Body.{Body}
use Rattle.crowd_data.specs.declared.post.Post.{Post}
use Rattle.crowd_data.specs.Run.{IsNext, Snapshot, after_post, after_posts, body_at, start_of}
use Rattle.crowd_data.specs.Scenario.{IsValid, Parts}
use Rattle.crowd_data.proofs.Frames.{start_present}
use Rattle.crowd_data.proofs.Posts.{agent-after_posts, length-after_posts}
use Rattle.published_frames.specs.declared.entry.Step.{Step}
use Rattle.published_frames.specs.History.{AreInRange, Continues, IsReadable, StartsWith, frame_of, last_of, prefs_of}
use Rattle.published_frames.specs.Taken.{count_of, most_counted, posts_from, posts_of, taken_of}

-- ---- frames

pub last_of-append : (frame : Snapshot) (history : List Step) (step : Step) → last_of frame (history ++ step ∷ []) ≡ frame_of step
last_of-append frame [] step = refl
last_of-append frame (x ∷ xs) step = last_of-append (frame_of x) xs step

pub continues_more : (scenario : Parts) (frame : Snapshot) (history : List Step) (step : Step) → Continues scenario frame history
    → IsNext scenario (last_of frame history) step.posts (frame_of step) → AreInRange step.bodies → Continues scenario frame (history ++ step ∷ [])
continues_more scenario frame [] step legal next near = (next, near, tt)
continues_more scenario frame (x ∷ xs) step legal next near = (legal.0, legal.1, continues_more scenario (frame_of x) xs step legal.2 next near)

pub start_readable : (scenario : Parts) → IsValid scenario → IsReadable scenario (start_of scenario)
start_readable scenario valid =
    let present = start_present scenario valid in
    record {
      full = present.full;
      numbered = present.numbered;
      in_range = λ place other h. let body = present.bodies place other h in (omega (arith, body.pos.0), omega (arith, body.pos.1));
    }

pub next_readable : (scenario : Parts) (frame next : Snapshot) (posts : List Post) → IsReadable scenario frame → IsNext scenario frame posts next → AreInRange next.bodies → IsReadable scenario next
next_readable scenario frame next posts readable is near = record {
  full = is.bodies ∙ readable.full;
  numbered = λ who h.
      let there : who < length frame.bodies = omega (arith, h, is.bodies) in
      (is.moved who there).agent ∙ (agent-after_posts who posts frame.bodies ∙ readable.numbered who there);
  in_range = near;
}

-- ---- preferred velocities

-- an agent and its preferred velocity
abbrev Wish : Type 0
Wish = ℕ × V2

abbrev wish_of : Body → Wish
wish_of body = (body.agent, body.pref)

abbrev wishes_of : List Body → List Wish
wishes_of bodies = map wish_of bodies

abbrev after_wish : Post → List Wish → List Wish
after_wish post wishes = map (λ (wish : Wish). cond (eqb wish.0 post.agent) (wish.0, post.vel) wish) wishes

abbrev after_wishes : List Post → List Wish → List Wish
after_wishes [] wishes = wishes
after_wishes (post ∷ rest) wishes = after_wishes rest (after_wish post wishes)

wish_of_either : (body : Body) (vel : V2) (own : Bool) → wish_of (cond own (record body { pref = vel }) body) ≡ cond own (body.agent, vel) (wish_of body)
wish_of_either body vel true = refl
wish_of_either body vel false = refl

wishes-after_post : (post : Post) (bodies : List Body) → wishes_of (after_post post bodies) ≡ after_wish post (wishes_of bodies)
wishes-after_post post [] = refl
wishes-after_post post (body ∷ rest) =
    let first = wish_of_either body post.vel (eqb body.agent post.agent) in
    let others = wishes-after_post post rest in
    λ i. first i ∷ others i

wishes-after_posts : (posts : List Post) (bodies : List Body) → wishes_of (after_posts posts bodies) ≡ after_wishes posts (wishes_of bodies)
wishes-after_posts [] bodies = refl
wishes-after_posts (post ∷ rest) bodies = wishes-after_posts rest (after_post post bodies) ∙ ap (after_wishes rest) (wishes-after_post post bodies)

same_wishes : (xs ys : List Body) → length xs ≡ length ys → ((who : ℕ) → who < length xs → wish_of (body_at xs who) ≡ wish_of (body_at ys who)) → wishes_of xs ≡ wishes_of ys
same_wishes [] [] e same = refl
same_wishes [] (y ∷ ys) e same = absurd (omega arith)
same_wishes (x ∷ xs) [] e same = absurd (omega arith)
same_wishes (x ∷ xs) (y ∷ ys) e same =
    let first = same zero (omega arith) in
    let rest = same_wishes xs ys (omega arith) (λ who h. same (suc who) (omega arith)) in
    λ i. first i ∷ rest i

wishes_next : (scenario : Parts) (frame next : Snapshot) (posts : List Post) → IsNext scenario frame posts next → wishes_of next.bodies ≡ wishes_of (after_posts posts frame.bodies)
wishes_next scenario frame next posts is =
    let e = length-after_posts posts frame.bodies in
    same_wishes next.bodies (after_posts posts frame.bodies) (is.bodies ∙ sym e)
    (λ who h. let moved = is.moved who (omega (arith, h, is.bodies)) in λ i. (moved.agent i, moved.pref i))

after_posts-append : (xs ys : List Post) (bodies : List Body) → after_posts (xs ++ ys) bodies ≡ after_posts ys (after_posts xs bodies)
after_posts-append [] ys bodies = refl
after_posts-append (x ∷ xs) ys bodies = after_posts-append xs ys (after_post x bodies)

wishes_last : (scenario : Parts) (frame : Snapshot) (history : List Step) → Continues scenario frame history
    → wishes_of (last_of frame history).bodies ≡ wishes_of (after_posts (posts_of history) frame.bodies)
wishes_last scenario frame [] legal = refl
wishes_last scenario frame (step ∷ rest) legal =
    let there = wishes_last scenario (frame_of step) rest legal.2 in
    let here = wishes_next scenario frame (frame_of step) step.posts legal.0 in
    there ∙ (wishes-after_posts (posts_of rest) step.bodies ∙ (ap (after_wishes (posts_of rest)) here
    ∙ (sym (wishes-after_posts (posts_of rest) (after_posts step.posts frame.bodies)) ∙ sym (ap wishes_of (after_posts-append step.posts (posts_of rest) frame.bodies)))))

prefs_of_wishes : (bodies : List Body) → prefs_of bodies ≡ map (λ (wish : Wish). wish.1) (wishes_of bodies)
prefs_of_wishes [] = refl
prefs_of_wishes (body ∷ rest) = ap (λ others. body.pref ∷ others) (prefs_of_wishes rest)

-- the preferred velocities in the last frame are those after all posts
pub prefs_of-last_of : (scenario : Parts) (frame : Snapshot) (history : List Step) → Continues scenario frame history
    → prefs_of (last_of frame history).bodies ≡ prefs_of (after_posts (posts_of history) frame.bodies)
prefs_of-last_of scenario frame history legal =
    prefs_of_wishes (last_of frame history).bodies ∙ (ap (map (λ (wish : Wish). wish.1)) (wishes_last scenario frame history legal)
    ∙ sym (prefs_of_wishes (after_posts (posts_of history) frame.bodies)))

-- ---- posts

pub posts_of-append : (xs ys : List Step) → posts_of (xs ++ ys) ≡ posts_of xs ++ posts_of ys
posts_of-append [] ys = refl
posts_of-append (x ∷ xs) ys = ap (λ posts. x.posts ++ posts) (posts_of-append xs ys) ∙ sym (append_assoc x.posts (posts_of xs) (posts_of ys))

taken_of-append : (controller : ℕ) (xs ys : List Step) → taken_of controller (xs ++ ys) ≡ taken_of controller xs ++ taken_of controller ys
taken_of-append controller xs ys = ap (posts_from controller) (posts_of-append xs ys) ∙ filter-append (λ (post : Post). eqb post.controller controller) (posts_of xs) (posts_of ys)

-- a longer history has no fewer posts of a controller
pub taken_of-later : (history begun : List Step) → StartsWith history begun → (controller : ℕ) → length (taken_of controller begun) ≤ length (taken_of controller history)
taken_of-later history begun e controller =
    let a = ap length (taken_of-append controller begun e.0) in
    let b = length-append (taken_of controller begun) (taken_of controller e.0) in
    let d = ap (λ h. length (taken_of controller h)) e.1 in
    omega (arith, a, b, d)

capped_sum : (a b most : ℕ) → min (a + b) most ≡ min (min a most + b) most
capped_sum a b most = omega arith

pub count_of-append : (controller : ℕ) (history : List Step) (step : Step) → count_of controller (history ++ step ∷ []) ≡ min (count_of controller history + length (posts_from controller step.posts)) most_counted
count_of-append controller history step =
    let a = ap length (taken_of-append controller history (step ∷ [])) in
    let b = length-append (taken_of controller history) (taken_of controller (step ∷ [])) in
    let d = ap (λ posts. length (posts_from controller posts)) (append-nil step.posts) in
    let e : length (taken_of controller (history ++ step ∷ [])) ≡ length (taken_of controller history) + length (posts_from controller step.posts) = omega (arith, a, b, d) in
    ap (λ n. min n most_counted) e ∙ capped_sum (length (taken_of controller history)) (length (posts_from controller step.posts)) most_counted
