-- A text has room for the velocities of posts.
use Rattle.std.proofs.Common.{◌^◌, ℕ, List, arith}
use Rattle.std.specs.List.{All}
use Rattle.fixed_vec.specs.Vector.{IsBelow}
use Rattle.crowd_data.specs.declared.post.Post.{Post}
use Rattle.crowd_data.specs.Limits.{IsPost}

pub posts_fit : (agents : ℕ) (posts : List Post) → All (IsPost agents) posts → All (λ (post : Post). IsBelow post.vel (2 ^ 31)) posts
posts_fit agents posts all k d h = let limits = (all k d h).vel in (omega (arith, limits.0), omega (arith, limits.1))
