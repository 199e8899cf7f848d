use Rattle.std.proofs.Common.{◌≡◌, length, take}
use Rattle.published_frames.proofs.shown.refill.Given as goal

-- the bodies so far are in place, and there are as many as before
abbrev pub invariant-loop-place : goal.invariant-loop-place
invariant-loop-place l = (length l.into.items ≡ length l.bodies) × (take l.place l.into.items ≡ take l.place l.bodies)
