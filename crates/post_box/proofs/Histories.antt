-- Histories of posts, one post longer.
use Rattle.std.proofs.Common.{◌≡◌, ◌≢◌, ℕ, ◌+◌, ◌<◌, ◌≤◌, eqb, true, false, List, [], ◌∷◌, ◌++◌, length, slice_index_or, sym, refl, ap, ◌∙◌, subst, append-nil, arith, length-append, ne_eqb, eq-eqb}
use Rattle.std.specs.Prelude.{All}
use Rattle.std.specs.List.{range_with_len}
use Rattle.std.proofs.lemmas.List.{map-append, map-id}
use Rattle.std.proofs.lemmas.List.Elements.{All-head, All-tail, All-push, All-weaker, filter-append}
use Rattle.std.proofs.lemmas.List.FromFn.{map-range_with_len_more}
use mathlib.Core.Logic.{dite}
use native.Mathlib.Decide.{ℕ_discrete}
use Rattle.crowd_data.specs.declared.post.Post.{Post}
use Rattle.post_box.specs.History.{AreConsecutive, IsBoxPost, IsHistory, posts_by}

-- what stands where a list goes on
pub at_seam : {A : Type 0} (xs : List A) (y : A) (ys : List A) (d : A) → slice_index_or (xs ++ y ∷ ys) (length xs) d ≡ y
at_seam [] y ys d = refl
at_seam (x ∷ xs) y ys d = at_seam xs y ys d

-- of one post
pub posts_by-own : (controller : ℕ) (post : Post) → post.controller ≡ controller → posts_by controller (post ∷ []) ≡ post ∷ []
posts_by-own controller post own = let same : eqb post.controller controller ≡ true = eq-eqb post.controller controller own in rw same refl

pub posts_by-other : (controller : ℕ) (post : Post) → post.controller ≢ controller → posts_by controller (post ∷ []) ≡ []
posts_by-other controller post other = let apart : eqb post.controller controller ≡ false = ne_eqb post.controller controller other in rw apart refl

pub posts_by-append : (controller : ℕ) (xs ys : List Post) → posts_by controller (xs ++ ys) ≡ posts_by controller xs ++ posts_by controller ys
posts_by-append controller xs ys = filter-append (λ (post : Post). eqb post.controller controller) xs ys

-- the controller's own post joins its posts, and no other's
pub own_more : (controller : ℕ) (posts : List Post) (post : Post) → post.controller ≡ controller → posts_by controller (posts ++ post ∷ []) ≡ posts_by controller posts ++ post ∷ []
own_more controller posts post own = posts_by-append controller posts (post ∷ []) ∙ ap (λ l. posts_by controller posts ++ l) (posts_by-own controller post own)

pub other_more : (controller : ℕ) (posts : List Post) (post : Post) → post.controller ≢ controller → posts_by controller (posts ++ post ∷ []) ≡ posts_by controller posts
other_more controller posts post other =
    posts_by-append controller posts (post ∷ []) ∙ (ap (λ l. posts_by controller posts ++ l) (posts_by-other controller post other) ∙ append-nil (posts_by controller posts))

-- a controller that is not there has no posts
pub posts_by-none : (controllers agents controller : ℕ) (posts : List Post) → controllers ≤ controller → All (IsBoxPost controllers agents) posts → posts_by controller posts ≡ []
posts_by-none controllers agents controller [] beyond each = refl
posts_by-none controllers agents controller (post ∷ posts) beyond each =
    let here : post.controller < controllers = (All-head (IsBoxPost controllers agents) post posts each).controller in
    let apart : eqb post.controller controller ≡ false = ne_eqb post.controller controller (λ e. omega arith) in
    rw apart (posts_by-none controllers agents controller posts beyond (All-tail (IsBoxPost controllers agents) post posts each))

-- the next post of a controller has the next seq
pub AreConsecutive-push : (posts : List Post) (post : Post) → AreConsecutive posts → post.seq ≡ length posts → AreConsecutive (posts ++ post ∷ [])
AreConsecutive-push posts post seqs next =
    let n = length posts in
    let more : range_with_len 0 (n + 1) ≡ range_with_len 0 n ++ n ∷ [] = sym (map-id (range_with_len 0 (n + 1))) ∙ (map-range_with_len_more (λ (k : ℕ). k) 0 n n (omega arith) ∙ ap (λ l. l ++ n ∷ []) (map-id (range_with_len 0 n))) in
    let long : length (posts ++ post ∷ []) ≡ n + 1 = (let l = length-append posts (post ∷ []) in omega arith) in
    map-append (λ (p : Post). p.seq) posts (post ∷ []) ∙ (ap (λ l. l ++ post.seq ∷ []) seqs ∙ (ap (λ (k : ℕ). range_with_len 0 n ++ k ∷ []) next ∙ (sym more ∙ ap (range_with_len 0) (sym long))))

-- a history with the next post of a controller
pub IsHistory-push : (controllers agents : ℕ) (history : List Post) (post : Post) → IsHistory controllers agents history → IsBoxPost controllers agents post
    → post.seq ≡ length (posts_by post.controller history) → IsHistory controllers agents (history ++ post ∷ [])
IsHistory-push controllers agents history post legal valid next = record {
  each = All-push (IsBoxPost controllers agents) history post legal.each valid;
  seqs = λ controller. dite (ℕ_discrete post.controller controller)
      (λ own. subst AreConsecutive (sym (own_more controller history post own))
      (AreConsecutive-push (posts_by controller history) post (legal.seqs controller) (next ∙ ap (λ (c : ℕ). length (posts_by c history)) own)))
      (λ other. subst AreConsecutive (sym (other_more controller history post other)) (legal.seqs controller));
}

-- a history is one of a box with more controllers and agents
pub IsHistory-wider : (controllers agents wider more : ℕ) (history : List Post) → controllers ≤ wider → agents ≤ more → IsHistory controllers agents history → IsHistory wider more history
IsHistory-wider controllers agents wider more history le les legal = record {
  each = All-weaker (IsBoxPost controllers agents) (IsBoxPost wider more) (λ post valid. record {
    controller = (let l = valid.controller in omega arith);
    valid = record { agent = (let l = valid.valid.agent in omega arith); vel = valid.valid.vel };
  }) history legal.each;
  seqs = legal.seqs;
}

-- the post that comes next out of the queue is one of the box's
pub next_valid : (controllers agents : ℕ) (history taken items : List Post) (post : Post) → All (IsBoxPost controllers agents) history → history ≡ taken ++ post ∷ items → IsBoxPost controllers agents post
next_valid controllers agents history taken items post each whole =
    let all : All (IsBoxPost controllers agents) (taken ++ post ∷ items) = subst (All (IsBoxPost controllers agents)) whole each in
    subst (IsBoxPost controllers agents) (at_seam taken post items post) (all (length taken) post (let l = length-append taken (post ∷ items) in omega arith))
