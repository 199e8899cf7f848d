-- What was taken of the posts of controllers.
use Rattle.std.proofs.Common.{◌≡◌, ◌∙◌, ◌+◌, ◌<◌, ◌≤◌, ℕ, Bool, true, false, cond, eqb, List, [], ◌∷◌, ◌++◌, refl, ap, sym, subst, arith, append-nil}
use Rattle.std.specs.List.{All}
use Rattle.crowd_data.specs.declared.post.Post.{Post}
use Rattle.crowd_data.specs.declared.post.ScriptPost.{ScriptPost}
use Rattle.crowd_data.specs.Run.{Snapshot, script_of, scripted_from}
use Rattle.crowd_data.specs.Scenario.{Parts, controllers_of}
use Rattle.crowd_data.specs.declared.post.TheConstants.{SCRIPT}
use Rattle.post_box.specs.Ends.{BoxState, TakerState, Transfers, after_taking}
use Rattle.post_box.specs.History.{IsBoxPost, posts_by}
use Rattle.post_box.proofs.Histories.{posts_by-append, posts_by-other}
use Rattle.published_frames.specs.declared.entry.Step.{Step}
use Rattle.published_frames.specs.Taken.{posts_of}
use Rattle.published_frames.proofs.Histories.{posts_of-append}
use Rattle.live_session.specs.LiveText.{IsLiveList, joined}
use Rattle.live_session.specs.Running.{IsTaking, lists_of, step_to}

-- no controller has a scripted post
no_script : (controller : ℕ) → controller < SCRIPT → (place : ℕ) (posts : List ScriptPost) (number : ℕ) → posts_by controller (scripted_from place posts number) ≡ []
no_script controller h place [] number = refl
no_script controller h place (post ∷ rest) number = by (eqb post.frame number) (no_script controller h (place + 1) rest number)
  where
    scripted : Post
    scripted = record { controller = SCRIPT; seq = place; agent = post.agent; vel = post.vel }

    by : (own : Bool) → posts_by controller (scripted_from (place + 1) rest number) ≡ [] → posts_by controller (cond own (scripted ∷ scripted_from (place + 1) rest number) (scripted_from (place + 1) rest number)) ≡ []
    by true none =
        let first : posts_by controller (scripted ∷ []) ≡ [] = posts_by-other controller scripted (λ (e : SCRIPT ≡ controller). omega arith) in
        posts_by-append controller (scripted ∷ []) (scripted_from (place + 1) rest number) ∙ (λ i. first i ++ none i)
    by false none = none

-- the posts of all lists
pub joined-lists_of : (history : List Step) → joined (lists_of history) ≡ posts_of history
joined-lists_of [] = refl
joined-lists_of (step ∷ rest) = ap (λ posts. step.posts ++ posts) (joined-lists_of rest)

-- one list more
pub taken_more : (controller : ℕ) → controller < SCRIPT → (scenario : Parts) (history : List Step) (frame : Snapshot) (number : ℕ) (posts taken got : List Post) → posts_by controller (posts_of history) ≡ posts_by controller got → posts ≡ script_of scenario number ++ taken
    → posts_by controller (posts_of (history ++ step_to frame posts ∷ [])) ≡ posts_by controller (got ++ taken)
taken_more controller h scenario history frame number posts taken got before e =
    let list : posts_by controller posts ≡ posts_by controller taken =
    ap (posts_by controller) e ∙ (posts_by-append controller (script_of scenario number) taken ∙ ap (λ l. l ++ posts_by controller taken) (no_script controller h 0 scenario.posts number)) in
    let all : posts_of (history ++ step_to frame posts ∷ []) ≡ posts_of history ++ posts = posts_of-append history (step_to frame posts ∷ []) ∙ ap (λ l. posts_of history ++ l) (append-nil posts) in
    ap (posts_by controller) all ∙ (posts_by-append controller (posts_of history) posts ∙ ((λ i. before i ++ list i) ∙ sym (posts_by-append controller got taken)))

-- what was taken stands behind the scripted posts
pub gathered : (box : BoxState) (scenario : Parts) (history : List Step) (number : ℕ) (old new : TakerState) (posts : List Post) → IsTaking box scenario history old → Transfers old new (script_of scenario number) posts → IsLiveList scenario number posts
gathered box scenario history number old new posts taking moved =
    (moved.posts, moved.list, subst (λ (x : ℕ × ℕ). All (IsBoxPost x.0 x.1) moved.posts) (λ i. (taking.controllers i, taking.agents i)) moved.each)

-- and is in the published lists
pub taking_next : (box : BoxState) (scenario now : Parts) (history more : List Step) (frame : Snapshot) (number : ℕ) (old new : TakerState) (posts : List Post) → controllers_of scenario.goals ≤ SCRIPT → now ≡ scenario → more ≡ history ++ step_to frame posts ∷ []
    → IsTaking box scenario history old → Transfers old new (script_of scenario number) posts → IsTaking box now more new
taking_next box scenario now history more frame number old new posts few same e taking moved =
    let here : IsTaking box scenario (history ++ step_to frame posts ∷ []) (after_taking old moved.posts) = record {
      box_is = taking.box_is;
      controllers = taking.controllers;
      agents = taking.agents;
      taken = λ controller below. taken_more controller (omega arith) scenario history frame number posts moved.posts old.posts (taking.taken controller below) moved.list;
    } in
    subst (λ (x : Parts × List Step × TakerState). IsTaking box x.0 x.1 x.2) (λ i. (sym same i, sym e i, sym moved.taker i)) here
