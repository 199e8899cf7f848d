use Rattle.std.proofs.Common.{◌≡◌, ◌≤◌, ◌+◌, take, length}
use Rattle.crowd_data.proofs.copies.copy_posts.Given as goal

-- those so far are copied, and there is room for the others
abbrev pub invariant-loop-post : goal.invariant-loop-post
invariant-loop-post l = (l.copy.items ≡ take l.post-index l.posts) × (length l.posts ≤ l.post-index + l.copy.spare)
