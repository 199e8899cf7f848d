-- The scripted posts of a frame stand behind those of earlier frames and before those of later ones.
use Rattle.std.proofs.Common.{◌≡◌, ◌≢◌, ◌∙◌, ◌<◌, ◌≤◌, ◌+◌, ℕ, zero, suc, Bool, true, false, cond, eqb, List, [], ◌∷◌, length, length-drop, drop, slice_index_or, refl, ap, subst, arith}
use Rattle.std.specs.List.{All, AllPairs}
use Rattle.std.proofs.lemmas.List.Elements.{All-cons, All-head, All-nil, All-tail}
use Rattle.std.proofs.lemmas.Bool.{ne_eqb}
use Rattle.std.proofs.lemmas.List.{get_or-drop, get_or_default}
use Rattle.crowd_data.specs.declared.post.Post.{Post}
use Rattle.crowd_data.specs.declared.post.ScriptPost.{ScriptPost}
use Rattle.crowd_data.specs.Limits.{IsPost, IsScriptPost}
use Rattle.crowd_data.specs.Run.{scripted_from}
use Rattle.crowd_data.specs.Scripts.{IsCursor, no_post, post_at}

-- a scripted post as it is taken in
abbrev pub scripted : ℕ → ScriptPost → Post
scripted place post = record { controller = 16; seq = place; agent = post.agent; vel = post.vel }

either : ℕ → ScriptPost → List ScriptPost → ℕ → Bool → List Post
either place post rest number own = cond own (scripted place post ∷ scripted_from (place + 1) rest number) (scripted_from (place + 1) rest number)

other_frame : (place : ℕ) (post : ScriptPost) (rest : List ScriptPost) (number : ℕ) → post.frame ≢ number → scripted_from place (post ∷ rest) number ≡ scripted_from (place + 1) rest number
unfolding either
other_frame place post rest number ne = ap (either place post rest number) (ne_eqb post.frame number ne)

-- none of them is of this frame
none_scripted : (posts : List ScriptPost) (place number : ℕ) → ((k : ℕ) → k < length posts → (post_at posts k).frame ≢ number) → scripted_from place posts number ≡ []
none_scripted [] place number none = refl
none_scripted (post ∷ rest) place number none =
    other_frame place post rest number (none zero (omega arith)) ∙ none_scripted rest (place + 1) number (λ k h. none (suc k) (omega (arith, h)))

-- the first ones are of other frames
first_skipped : (posts : List ScriptPost) (count place number : ℕ) → count ≤ length posts → ((k : ℕ) → k < count → (post_at posts k).frame ≢ number)
    → scripted_from place posts number ≡ scripted_from (place + count) (drop count posts) number
first_skipped posts zero place number h none = let e : place ≡ place + zero = omega arith in ap (λ p. scripted_from p posts number) e
first_skipped [] (suc count) place number h none = absurd (omega (arith, h))
first_skipped (post ∷ rest) (suc count) place number h none =
    let e : place + 1 + count ≡ place + suc count = omega arith in
    other_frame place post rest number (none zero (omega arith))
    ∙ first_skipped rest count (place + 1) number (omega (arith, h)) (λ k l. none (suc k) (omega (arith, l)))
    ∙ ap (λ p. scripted_from p (drop count rest) number) e

pub from_cursor : (posts : List ScriptPost) (number place : ℕ) → IsCursor posts number place → scripted_from 0 posts number ≡ scripted_from place (drop place posts) number
from_cursor posts number place cursor =
    let e : 0 + place ≡ place = omega arith in
    first_skipped posts place 0 number cursor.within (λ k h same. absurd (omega (arith, same, cursor.before k h))) ∙ ap (λ p. scripted_from p (drop place posts) number) e

-- from a place on all posts are of later frames, as the frames never fall
pub none_left : (posts : List ScriptPost) (number place : ℕ) (d : ScriptPost) → place < length posts → AllPairs (λ (p : ScriptPost) (q : ScriptPost). p.frame ≤ q.frame) posts
    → ((k : ℕ) → place ≤ k → k < length posts → number ≤ (post_at posts k).frame) → (slice_index_or posts place d).frame ≢ number
    → scripted_from place (drop place posts) number ≡ []
none_left posts number place d h order behind other =
    let is = ap (λ (p : ScriptPost). p.frame) (get_or_default posts place d no_post h) in
    let first : number < (post_at posts place).frame = by (post_at posts place).frame (behind place (omega arith) h) (λ e. other (is ∙ e)) in
    none_scripted (drop place posts) place number (λ k l same.
    let below : place + k < length posts = omega (arith, l, length-drop place posts) in
    let there = ap (λ (p : ScriptPost). p.frame) (get_or-drop place posts k no_post) in
    absurd (omega (arith, same, there, first, later k below)))
  where
    by : (n : ℕ) → number ≤ n → n ≢ number → number < n
    by n h ne = omega arith

    later : (k : ℕ) → place + k < length posts → (post_at posts place).frame ≤ (post_at posts (place + k)).frame
    later zero l = let e : place ≡ place + zero = omega arith in subst (λ n. (post_at posts place).frame ≤ (post_at posts n).frame) e (omega arith)
    later (suc k) l = order place (place + suc k) no_post (omega arith) l

-- each of them is for an agent that exists, with a velocity within its limits
pub scripted_sound : (steps agents : ℕ) (posts : List ScriptPost) (place number : ℕ) → All (IsScriptPost steps agents) posts → All (IsPost agents) (scripted_from place posts number)
scripted_sound steps agents [] place number all = All-nil (IsPost agents)
scripted_sound steps agents (post ∷ rest) place number all =
    by (eqb post.frame number) (All-head (IsScriptPost steps agents) post rest all)
    (scripted_sound steps agents rest (place + 1) number (All-tail (IsScriptPost steps agents) post rest all))
  where
    by : (own : Bool) → IsScriptPost steps agents post → All (IsPost agents) (scripted_from (place + 1) rest number) → All (IsPost agents) (cond own (scripted place post ∷ scripted_from (place + 1) rest number) (scripted_from (place + 1) rest number))
    by true sound later = All-cons (IsPost agents) (scripted place post) (scripted_from (place + 1) rest number) (record { agent = sound.agent; vel = sound.vel }) later
    by false sound later = later
