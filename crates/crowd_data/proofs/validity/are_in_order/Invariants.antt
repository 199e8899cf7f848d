use Rattle.std.proofs.Common.{◌≡◌, ◌≤◌, ◌<◌, ◌-◌, ℕ, get_or}
use Rattle.crowd_data.specs.declared.post.ScriptPost.{ScriptPost}
use Rattle.crowd_data.proofs.validity.are_in_order.Given as goal

-- the posts so far are in order, and the last frame is that of the last of them
abbrev pub invariant-loop-post : goal.invariant-loop-post
invariant-loop-post l = record {
  order : (i j : ℕ) (d : ScriptPost) → i < j → j < l.post-index → (get_or l.posts i d).frame ≤ (get_or l.posts j d).frame;
  below : (k : ℕ) (d : ScriptPost) → k < l.post-index → (get_or l.posts k d).frame ≤ l.last;
  last : (d : ScriptPost) → 0 < l.post-index → (get_or l.posts (l.post-index - 1) d).frame ≡ l.last;
  first : l.post-index ≡ 0 → l.last ≡ 0;
}
