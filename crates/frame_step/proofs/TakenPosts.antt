-- Posts taken in one after another, each at its agent's place.
use Rattle.std.proofs.Common.{◌≡◌, ◌∙◌, ◌<◌, ◌+◌, ℕ, suc, List, [], ◌∷◌, drop, length, slice_index_or, slice_set, sym, ap, subst, arith}
use Rattle.std.proofs.lemmas.List.{get_or_default}
use Rattle.std.proofs.Math.Seq.{drop-cons}
use Rattle.crowd_data.specs.declared.frame.Body.{Body}
use Rattle.crowd_data.specs.declared.post.Post.{Post}
use Rattle.crowd_data.specs.Present.{AreNumbered}
use Rattle.crowd_data.specs.Run.{after_post, after_posts, no_body}
use Rattle.crowd_data.proofs.Frames.{numbered-after_posts}
use Rattle.crowd_data.proofs.Posts.{after_post-set, length-after_posts}

pub one_taken : (bodies : List Body) (post : Post) (d : Body) (new : List Body) → post.agent < length bodies → AreNumbered bodies
    → new ≡ slice_set bodies post.agent (record (slice_index_or bodies post.agent d) { pref = post.vel }) → new ≡ after_post post bodies
one_taken bodies post d new h numbered e =
    e ∙ ap (λ (b : Body). slice_set bodies post.agent (record b { pref = post.vel })) (get_or_default bodies post.agent d no_body h) ∙ sym (after_post-set post bodies h numbered)

module _ (posts : List Post) (i : ℕ) (d : Post) (bodies new : List Body) (h : i < length posts) (e : new ≡ after_post (slice_index_or posts i d) bodies) where
  pub more_taken : after_posts (drop (i + 1) posts) new ≡ after_posts (drop i posts) bodies
  more_taken =
      let one : suc i ≡ i + 1 = omega arith in
      subst (λ n. after_posts (drop n posts) new ≡ after_posts (drop i posts) bodies) one
      (ap (λ b. after_posts (drop (suc i) posts) b) e ∙ sym (ap (λ ps. after_posts ps bodies) (drop-cons posts i d h)))

  pub count_taken : length new ≡ length bodies
  count_taken = ap length e ∙ length-after_posts (slice_index_or posts i d ∷ []) bodies

  pub numbered_taken : AreNumbered bodies → AreNumbered new
  numbered_taken numbered = subst AreNumbered (sym e) (numbered-after_posts (slice_index_or posts i d ∷ []) bodies numbered)
