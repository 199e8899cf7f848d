use Rattle.std.proofs.Common.{◌≡◌, ◌+◌, ◌<◌, ℕ, length, min, slice_index, take}
use Rattle.published_frames.specs.declared.counts.TheConstants.{CONTROLLERS}
use Rattle.published_frames.specs.Taken.{most_counted, posts_from}
use Rattle.published_frames.proofs.counts.PostCounts.with.Given as goal

-- the posts so far are counted
abbrev pub invariant-loop-post : goal.invariant-loop-post
invariant-loop-post l =
    (length l.counts ≡ CONTROLLERS)
    × ((controller : ℕ) → controller < CONTROLLERS → slice_index l.counts controller ≡ min (slice_index l.initial.counts controller + length (posts_from controller (take l.post-index l.posts))) most_counted)
