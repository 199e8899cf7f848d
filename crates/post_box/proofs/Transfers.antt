-- What the taker moved, one post or one poster more.
use Rattle.std.proofs.Common.{◌≡◌, List, [], ◌∷◌, ◌++◌, map, ap, ◌∙◌, subst, append_assoc}
use Rattle.std.specs.Prelude.{All}
use Rattle.std.proofs.lemmas.List.Elements.{All-nil, All-cons, All-head, All-tail, All-push}
use Rattle.crowd_data.specs.declared.post.Post.{Post}
use Rattle.post_box.specs.declared.view.ControllerPosts.{ControllerPosts}
use Rattle.post_box.specs.History.{IsBoxPost, posts_by}
use Rattle.post_box.specs.Ends.{AreOnceInOrder, IsBehind, PosterState, TakerState, Transfers, after_taking, final_of}

pub Transfers-push : (old middle new : TakerState) (before list after : List Post) (post : Post) → Transfers old middle before list → IsBoxPost middle.controllers middle.agents post
    → new ≡ after_taking middle (post ∷ []) → after ≡ list ++ post ∷ [] → Transfers old new before after
Transfers-push old middle new before list after post moves valid taker pushed =
    record {
      posts = moves.posts ++ post ∷ [];
      list = pushed ∙ (ap (λ l. l ++ post ∷ []) moves.list ∙ append_assoc before moves.posts (post ∷ []));
      taker = taker ∙ (ap (λ (t : TakerState). after_taking t (post ∷ [])) moves.taker ∙ (λ i. record old { posts = append_assoc old.posts moves.posts (post ∷ []) i }));
      each = All-push (IsBoxPost old.controllers old.agents) moves.posts post moves.each
          (subst (λ (t : TakerState). IsBoxPost t.controllers t.agents post) moves.taker valid);
    }

-- of the posters that were taken back
pub once_in_order : (earlier : List ControllerPosts) (posters : List PosterState) (posts : List Post)
    → All (λ (by : ControllerPosts). posts_by by.controller posts ≡ by.posts) (earlier ++ map final_of posters) → AreOnceInOrder posters posts
once_in_order (by ∷ earlier) posters posts all = once_in_order earlier posters posts (All-tail (λ (by : ControllerPosts). posts_by by.controller posts ≡ by.posts) by (earlier ++ map final_of posters) all)
once_in_order [] [] posts all = All-nil (λ (poster : PosterState). posts_by poster.controller posts ≡ poster.posts)
once_in_order [] (poster ∷ posters) posts all =
    let P : ControllerPosts → Type 0 = λ by. posts_by by.controller posts ≡ by.posts in
    All-cons (λ (poster : PosterState). posts_by poster.controller posts ≡ poster.posts) poster posters (All-head P (final_of poster) (map final_of posters) all)
    (once_in_order [] posters posts (All-tail P (final_of poster) (map final_of posters) all))

-- of all posters that were taken back since, where this is left
pub finished : (old new : TakerState) (posters : List PosterState) (left : List Post) → new ≡ record old { final_posts = old.final_posts ++ map final_of posters }
    → IsBehind new left → AreOnceInOrder posters (old.posts ++ left)
finished old new posters left taken waiting =
    once_in_order old.final_posts posters (old.posts ++ left) (subst (λ (t : TakerState). All (λ (by : ControllerPosts). posts_by by.controller (t.posts ++ left) ≡ by.posts) t.final_posts) taken waiting.final_posts)
