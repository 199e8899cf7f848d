-- What the passes of posters and of the taker keep.
use Rattle.std.specs.Prelude.{◌≡◌, ℕ, ◌≤◌, Option, length}
use Rattle.std.specs.declared.alloc.Global.{Global}
use Rattle.atomic_blocks.specs.declared.web.Seat.{Seat}
use Rattle.crossbeam_queue.specs.declared.seg_queue.Going.{Going}
use Rattle.crossbeam_queue.specs.SegTies.{SegId, IsSegPassOf}
use Rattle.crowd_data.specs.declared.post.Post.{Post}
use Rattle.post_box.specs.declared.view.Known.{Known}
use Rattle.post_box.specs.declared.view.Role.TheVariants.{Poster, Taker}
use Rattle.post_box.specs.Ends.{TakerState}

-- a pass on a queue of posts
abbrev pub PostPass : Type 0
PostPass = Seat (Option Post) (Going Post Known) Global

-- its queue
abbrev pub queue_of : PostPass → SegId Global
queue_of pass = record { web = pass.web; heap = pass.heap }

-- the pass of the poster of the controller of this number, where there are so many agents, which has sent
-- so many posts of the most that it may
pub record IsPosterPass (pass : PostPass) (number count_of_agents most sent : ℕ) : Type 0 where
  pub whole : IsSegPassOf (queue_of pass) pass
  pub role : pass.me.view.client.role ≡ Poster
  pub controller : pass.me.view.client.controller ≡ number
  pub agents : pass.me.view.client.agents ≡ count_of_agents
  pub count : length pass.me.view.client.posts ≡ sent
  pub few : sent ≤ most

-- the taker of a pass
abbrev pub taker_of : PostPass → TakerState
taker_of pass = record {
  queue = queue_of pass;
  controllers = pass.me.view.client.controllers;
  agents = pass.me.view.client.agents;
  posts = pass.me.view.client.posts;
  final_posts = pass.me.view.client.final_posts;
}

-- the taker's pass
pub record IsTakerPass (pass : PostPass) : Type 0 where
  pub whole : IsSegPassOf (queue_of pass) pass
  pub role : pass.me.view.client.role ≡ Taker
