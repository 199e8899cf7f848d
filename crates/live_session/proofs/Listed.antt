-- The lists of posts of a live run.
use Rattle.std.proofs.Common.{◌≡◌, ◌+◌, ◌≤◌, ℕ, Bool, true, false, cond, eqb, List, [], ◌∷◌, ◌++◌, length, arith, sym, subst}
use Rattle.std.specs.List.{All}
use Rattle.std.proofs.lemmas.List.Elements.{All-append}
use Rattle.crowd_data.specs.declared.post.Post.{Post}
use Rattle.crowd_data.specs.declared.post.ScriptPost.{ScriptPost}
use Rattle.crowd_data.specs.Limits.{IsPost}
use Rattle.crowd_data.specs.Run.{script_of, scripted_from}
use Rattle.crowd_data.specs.Scenario.{IsValid, Parts}
use Rattle.crowd_data.proofs.ScriptedPosts.{scripted_sound}
use Rattle.crowd_data.specs.declared.post.TheConstants.{SCRIPT}
use Rattle.live_session.specs.LiveText.{AreLiveLists, IsLiveList}

-- a frame has at most as many scripted posts as there are
pub length-scripted_from : (place : ℕ) (posts : List ScriptPost) (number : ℕ) → length (scripted_from place posts number) ≤ length posts
length-scripted_from place [] number = omega arith
length-scripted_from place (post ∷ rest) number = by (eqb post.frame number) (length-scripted_from (place + 1) rest number)
  where
    by : (own : Bool) → length (scripted_from (place + 1) rest number) ≤ length rest
        → length (cond own (record { controller = SCRIPT; seq = place; agent = post.agent; vel = post.vel } ∷ scripted_from (place + 1) rest number) (scripted_from (place + 1) rest number)) ≤ length (post ∷ rest)
    by true h = omega arith
    by false h = omega arith

-- each listed post names an agent that exists and a velocity within the limits
pub listed_sound : (scenario : Parts) (number : ℕ) (posts : List Post) → IsValid scenario → IsLiveList scenario number posts → All (IsPost (length scenario.agents)) posts
listed_sound scenario number posts valid (taken, are, each) =
    subst (λ (list : List Post). All (IsPost (length scenario.agents)) list) (sym are)
    (All-append (IsPost (length scenario.agents)) (script_of scenario number) taken (scripted_sound scenario.steps (length scenario.agents) scenario.posts 0 number valid.posts) (λ k d h. (each k d h).valid))

-- one more list
pub listed_more : (scenario : Parts) (first number : ℕ) (lists : List (List Post)) (posts : List Post) → first + length lists ≡ number → AreLiveLists scenario first lists → IsLiveList scenario number posts
    → AreLiveLists scenario first (lists ++ posts ∷ [])
listed_more scenario first number [] posts e all list = (subst (λ (n : ℕ). IsLiveList scenario n posts) (omega (arith, e)) list, tt)
listed_more scenario first number (x ∷ xs) posts e all list = (all.0, listed_more scenario (first + 1) number xs posts (omega (arith, e)) all.1 list)
