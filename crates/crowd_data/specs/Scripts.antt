-- Where the scripted posts of a frame begin.
use Rattle.std.specs.Prelude.{ℕ, ◌<◌, ◌≤◌, List, length, slice_index_or}
use Rattle.fixed_vec.specs.Vector.{zero_vector}
use Rattle.crowd_data.specs.declared.post.ScriptPost.{ScriptPost}

-- the scripted post at a place
abbrev pub no_post : ScriptPost
no_post = record { frame = 0; agent = 0; vel = zero_vector }

abbrev pub post_at : List ScriptPost → ℕ → ScriptPost
post_at posts place = slice_index_or posts place no_post

-- the posts before this place are of earlier frames, and the others aren't
pub record IsCursor (posts : List ScriptPost) (number place : ℕ) : Type 0 where
  pub within : place ≤ length posts
  pub before : (k : ℕ) → k < place → (post_at posts k).frame < number
  pub behind : (k : ℕ) → place ≤ k → k < length posts → number ≤ (post_at posts k).frame
