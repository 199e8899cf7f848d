-- What a clause sees of a box, of its posters and of its taker.
use Rattle.std.specs.Prelude.{◌≡◌, ℕ, List, [], ◌∷◌, ◌++◌, All, length}
use Rattle.std.specs.declared.alloc.Global.{Global}
use Rattle.crossbeam_queue.specs.Fifo.{Held}
use Rattle.crossbeam_queue.specs.SegTies.{SegId}
use Rattle.fixed_vec.specs.declared.vector.V2.{V2}
use Rattle.crowd_data.specs.declared.post.Post.{Post}
use Rattle.post_box.specs.declared.view.ControllerPosts.{ControllerPosts}
use Rattle.post_box.specs.History.{IsBoxPost, IsWaiting, posts_by}

-- a box: which queue it is
pub record BoxState : Type 0 where
  pub queue : SegId Global

-- a poster: the queue, its controller, how many agents there are, how many posts it may post at most, and
-- what it posted, in order
pub record PosterState : Type 0 where
  pub queue : SegId Global
  pub controller : ℕ
  pub agents : ℕ
  pub most : ℕ
  pub posts : List Post

-- the taker: the queue, how many controllers and agents there are, what it took, in order, and all posts
-- of each poster that it took back
pub record TakerState : Type 0 where
  pub queue : SegId Global
  pub controllers : ℕ
  pub agents : ℕ
  pub posts : List Post
  pub final_posts : List ControllerPosts

-- the poster is of this box
abbrev pub IsPosterOf : BoxState → PosterState → Type 0
IsPosterOf box poster = poster.queue ≡ box.queue

-- the taker is of this box
abbrev pub IsTakerOf : BoxState → TakerState → Type 0
IsTakerOf box taker = taker.queue ≡ box.queue

-- a controller's poster before its first post
abbrev pub first_poster : SegId Global → ℕ → ℕ → ℕ → PosterState
first_poster queue agents most controller = record { queue = queue; controller = controller; agents = agents; most = most; posts = [] }

-- the taker before it took anything
abbrev pub first_taker : SegId Global → ℕ → ℕ → TakerState
first_taker queue controllers agents = record { queue = queue; controllers = controllers; agents = agents; posts = []; final_posts = [] }

-- what a poster posts next, where it is to be this velocity for this agent
abbrev pub next_post : PosterState → ℕ → V2 → Post
next_post poster agent vel = record { controller = poster.controller; seq = length poster.posts; agent = agent; vel = vel }

-- the poster after one more post
abbrev pub after_posting : PosterState → Post → PosterState
after_posting poster post = record poster { posts = poster.posts ++ post ∷ [] }

-- the taker after it took so many more
abbrev pub after_taking : TakerState → List Post → TakerState
after_taking taker posts = record taker { posts = taker.posts ++ posts }

-- all posts of the poster's controller, once the poster is taken back
abbrev pub final_of : PosterState → ControllerPosts
final_of poster = record { controller = poster.controller; posts = poster.posts }

-- the taker after it took a poster back
abbrev pub after_taking_back : TakerState → PosterState → TakerState
after_taking_back taker poster = record taker { final_posts = taker.final_posts ++ final_of poster ∷ [] }

-- the taker took some posts, each one of the box's, and put the same posts at the end of a list
pub record Transfers (old new : TakerState) (before after : List Post) : Type 0 where
  pub posts : List Post
  pub list : after ≡ before ++ posts
  pub taker : new ≡ after_taking old posts
  pub each : All (IsBoxPost old.controllers old.agents) posts

-- these posts can wait in the queue behind what the taker took: together they are a history of the box,
-- and it has all posts of each poster that was taken back
abbrev pub IsBehind : TakerState → List Post → Type 0
IsBehind taker waiting = IsWaiting taker.controllers taker.agents taker.posts taker.final_posts waiting

-- at one moment no post was waiting behind what the taker took
abbrev pub WasEmpty : TakerState → Type 0
WasEmpty taker = Held 0 (IsBehind taker)

-- of each poster, the posts of its controller are what it posted, each once, unchanged and in its order
abbrev pub AreOnceInOrder : List PosterState → List Post → Type 0
AreOnceInOrder posters posts = All (λ (poster : PosterState). posts_by poster.controller posts ≡ poster.posts) posters
