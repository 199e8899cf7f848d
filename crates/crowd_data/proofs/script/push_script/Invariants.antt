use Rattle.std.proofs.Common.{◌≡◌, ◌<◌, ◌≤◌, ◌+◌, ◌-◌, ◌++◌, ℕ, drop, length}
use Rattle.crowd_data.specs.Run.{scripted_from}
use Rattle.crowd_data.specs.Scripts.{post_at}
use Rattle.crowd_data.proofs.script.push_script.Given as goal

-- the posts so far, and those of the frame from here on, are those of the frame
abbrev pub invariant-loop-place : goal.invariant-loop-place
invariant-loop-place l = record {
  within : l.place ≤ length l.posts;
  items : l.into.items ++ scripted_from l.place (drop l.place l.posts) l.number ≡ l.fn.into.items ++ scripted_from 0 l.posts l.number;
  before : (k : ℕ) → k < l.place → (post_at l.posts k).frame < l.number + 1;
  behind : (k : ℕ) → l.place ≤ k → k < length l.posts → l.number ≤ (post_at l.posts k).frame;
  room : length l.into.items + l.into.spare ≡ length l.fn.into.items + l.fn.into.spare;
  left : length l.posts - l.place ≤ l.into.spare;
}

abbrev pub decreases-loop-place : goal.decreases-loop-place
decreases-loop-place l = length l.posts - l.place
