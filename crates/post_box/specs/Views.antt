-- The views of passes: of a poster, of the taker, and of a pass that is spent.
use Rattle.std.specs.Prelude.{ℕ, [], ◌∷◌, ◌++◌}
use Rattle.post_box.specs.declared.view.Known.{Known}
use Rattle.post_box.specs.declared.view.Role.TheVariants.{Poster, Taker, Spent}

-- a poster that has posted nothing
abbrev pub poster_view : ℕ → ℕ → Known
poster_view controller agents = record { role = Poster; controller = controller; controllers = 0; agents = agents; posts = []; final_posts = [] }

-- the taker before it took anything
abbrev pub taker_view : ℕ → ℕ → Known
taker_view controllers agents = record { role = Taker; controller = 0; controllers = controllers; agents = agents; posts = []; final_posts = [] }

abbrev pub spent_view : Known
spent_view = record { role = Spent; controller = 0; controllers = 0; agents = 0; posts = []; final_posts = [] }

-- the taker after it took a poster back
abbrev pub with_final : Known → Known → Known
with_final taker poster = record taker { final_posts = taker.final_posts ++ record { controller = poster.controller; posts = poster.posts } ∷ [] }
