-- The history of posts: one list that only grows. What the taker took is the beginning of it.
use Rattle.std.specs.Prelude.{◌≡◌, ℕ, ◌<◌, ◌==◌, List, ◌++◌, map, filter, length, All}
use Rattle.std.specs.List.{range_with_len}
use Rattle.crowd_data.specs.declared.post.Post.{Post}
use Rattle.crowd_data.specs.Limits.{IsPost}
use Rattle.post_box.specs.declared.view.ControllerPosts.{ControllerPosts}

-- the posts of a controller, in order
abbrev pub posts_by : ℕ → List Post → List Post
posts_by controller posts = filter (λ (post : Post). post.controller == controller) posts

-- the seqs are 0, 1, 2 and so on
abbrev pub AreConsecutive : List Post → Type 0
AreConsecutive posts = map (λ (post : Post). post.seq) posts ≡ range_with_len 0 (length posts)

-- a post of a box with so many controllers and agents
pub record IsBoxPost (controllers agents : ℕ) (post : Post) : Type 0 where
  pub controller : post.controller < controllers
  pub valid : IsPost agents post

-- what was posted into such a box, in the order in which it came into the queue
pub record IsHistory (controllers agents : ℕ) (history : List Post) : Type 0 where
  pub each : All (IsBoxPost controllers agents) history
  pub seqs : (controller : ℕ) → AreConsecutive (posts_by controller history)

-- these posts can wait behind those that were taken: together they are a history, and it has all posts of
-- each controller in the list
pub record IsWaiting (controllers agents : ℕ) (taken : List Post) (final : List ControllerPosts) (waiting : List Post) : Type 0 where
  pub history : IsHistory controllers agents (taken ++ waiting)
  pub final_posts : All (λ (by : ControllerPosts). posts_by by.controller (taken ++ waiting) ≡ by.posts) final
