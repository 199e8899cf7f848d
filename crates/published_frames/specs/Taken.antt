-- The posts in a history.
use Rattle.std.specs.Prelude.{ℕ, ◌==◌, List, [], ◌∷◌, ◌++◌, filter, length, min}
use Rattle.crowd_data.specs.declared.post.Post.{Post}
use Rattle.published_frames.specs.declared.entry.Step.{Step}

-- the posts of all steps, in order
abbrev pub posts_of : List Step → List Post
posts_of [] = []
posts_of (step ∷ rest) = step.posts ++ posts_of rest

-- those posts that are from a controller
abbrev pub posts_from : ℕ → List Post → List Post
posts_from controller posts = filter (λ (post : Post). post.controller == controller) posts

-- the posts of a controller in all steps, in order
abbrev pub taken_of : ℕ → List Step → List Post
taken_of controller history = posts_from controller (posts_of history)

-- the greatest count that a note can bear
abbrev pub most_counted : ℕ
most_counted = 4294967295

-- how many posts of a controller a history has, as a note tells it
abbrev pub count_of : ℕ → List Step → ℕ
count_of controller history = min (length (taken_of controller history)) most_counted
