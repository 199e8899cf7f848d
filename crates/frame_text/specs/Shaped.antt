-- Frames of a transcript's shape, in plain words: what the fold over the records accepts.
use Rattle.std.specs.Prelude.{◌≡◌, ◌<◌, ◌≤◌, ℕ, ◌+◌, List, [], ◌∷◌, length}
use Rattle.std.specs.List.{All}
use Rattle.crowd_data.specs.declared.frame.Body.{Body}
use Rattle.crowd_data.specs.declared.post.Post.{Post}
use Rattle.crowd_data.specs.declared.post.TheConstants.{SCRIPT}
use Rattle.frame_text.specs.declared.limits.TheConstants.{GREATEST_PLACE, GREATEST_RELIEF, GREATEST_SEQ}
use Rattle.crowd_data.specs.Limits.{IsVelocity, IsWithin}
use Rattle.crowd_data.specs.Scenario.{Parts}
use Rattle.frame_text.specs.Shape.{PostedFrame}

-- a post of a controller or of the script, for an agent that exists
pub record IsPrintedPost (agents : ℕ) (post : Post) : Type 0 where
  pub controller : post.controller ≤ SCRIPT
  pub seq : post.seq ≤ GREATEST_SEQ
  pub agent : post.agent < agents
  pub vel : IsVelocity post.vel

-- the numbers of a body are within their limits
pub record IsPrintedBody (body : Body) : Type 0 where
  pub pos : IsWithin body.pos GREATEST_PLACE
  pub vel : IsVelocity body.vel
  pub pref : IsVelocity body.pref
  pub relief : body.relief ≤ GREATEST_RELIEF

-- bodies of the agents from this number on
abbrev pub AreBodies : ℕ → List Body → Type 0
AreBodies who [] = Unit {0}
AreBodies who (body ∷ rest) = (body.agent ≡ who) × IsPrintedBody body × AreBodies (who + 1) rest

-- a frame of this number, with a body for each agent; frame 0 has no posts
pub record IsPostedFrame (s : Parts) (place : ℕ) (f : PostedFrame) : Type 0 where
  pub number : f.frame.number ≡ place
  pub posts : All (IsPrintedPost (length s.agents)) f.posts
  pub none_at_start : place ≡ 0 → f.posts ≡ []
  pub count : length f.frame.bodies ≡ length s.agents
  pub bodies : AreBodies 0 f.frame.bodies

-- frames that are numbered from here on, at most up to the steps
abbrev pub AreFrames : Parts → ℕ → List PostedFrame → Type 0
AreFrames s number [] = Unit {0}
AreFrames s number (f ∷ rest) = (number ≤ s.steps) × IsPostedFrame s number f × AreFrames s (number + 1) rest

-- the frames of a transcript: at least frame 0
pub record IsShaped (s : Parts) (frames : List PostedFrame) : Type 0 where
  pub some : 0 < length frames
  pub each : AreFrames s 0 frames
