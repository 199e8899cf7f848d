-- The rule of the queue: what holds of what waits in it, and of what each pass knows, between any two steps.
use Rattle.std.specs.Prelude.{◌≡◌, ℕ, ◌<◌, List, ◌++◌, All, Option, Some, None}
use mathlib.Core.Option.{some}
use lib.ListN.{get_elem?}
use Rattle.crowd_data.specs.declared.post.Post.{Post}
use Rattle.post_box.specs.declared.view.ControllerPosts.{ControllerPosts}
use Rattle.post_box.specs.declared.view.Known.{Known}
use Rattle.post_box.specs.declared.view.Role.TheVariants.{Poster, Taker}
use Rattle.post_box.specs.History.{IsHistory, posts_by}

-- the history and what was taken of it, the taker's pass, the pass of each controller's poster (none where
-- it was taken back), how many controllers have had a poster, and how many agents there are
pub record QueueState : Type 0 where
  pub history : List Post
  pub taken : List Post
  pub taker : ℕ
  pub seats : ℕ → Option ℕ
  pub controllers : ℕ
  pub agents : ℕ

-- these are all posts of the controller, whose poster was taken back
pub record IsFinal (now : QueueState) (by : ControllerPosts) : Type 0 where
  pub controller : by.controller < now.controllers
  pub gone : now.seats by.controller ≡ None
  pub posts : posts_by by.controller now.history ≡ by.posts

-- what the taker's pass knows, of which there is one
pub record FitsTaker (now : QueueState) (pass : ℕ) (v : Known) : Type 0 where
  pub only : pass ≡ now.taker
  pub posts : v.posts ≡ now.taken
  pub controllers : v.controllers ≡ now.controllers
  pub agents : v.agents ≡ now.agents
  pub final_posts : All (IsFinal now) v.final_posts

-- what a poster's pass knows, of which each controller has one at most
pub record FitsPoster (now : QueueState) (pass : ℕ) (v : Known) : Type 0 where
  pub only : now.seats v.controller ≡ Some pass
  pub controller : v.controller < now.controllers
  pub posts : v.posts ≡ posts_by v.controller now.history
  pub agents : v.agents ≡ now.agents

-- what a pass knows. A spent one knows nothing
pub record Fits (now : QueueState) (pass : ℕ) (v : Known) : Type 0 where
  pub taker : v.role ≡ Taker → FitsTaker now pass v
  pub poster : v.role ≡ Poster → FitsPoster now pass v

-- the queue holds the history but for what was taken, and each pass knows its part of it
pub record IsKept (items : List Post) (views : List Known) : Type 0 where
  pub now : QueueState
  pub whole : now.history ≡ now.taken ++ items
  pub legal : IsHistory now.controllers now.agents now.history
  pub each : (pass : ℕ) (v : Known) → get_elem? views pass ≡ some v → Fits now pass v
