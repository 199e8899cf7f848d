-- What a call on one record did to the frames that were read.
use Rattle.std.specs.Prelude.{◌≡◌, ℕ, map, List, Some, None, Result, Ok, Err}
use Rattle.std.specs.declared.option.Option.{Option}
use Rattle.crowd_data.specs.Scenario.{Parts}
use Rattle.scenario_read.specs.Records.{Record}
use Rattle.frame_text.specs.declared.frames.Frames.{Frames}
use Rattle.frame_text.specs.declared.frame_records.FrameFault.{FrameFault}
use Rattle.frame_text.specs.declared.frame_records.FrameFault.TheVariants.{NoMemory, NotAllowed}
use Rattle.frame_text.specs.declared.shape.ShapeFault.{ShapeFault}
use Rattle.frame_text.specs.declared.shape.ShapeFault.TheVariants.{NoMemory as ShapeMemory, At}
use Rattle.frame_text.specs.Shape.{FramesSoFar, PostedFrame, closed, frames_from, posted_of}

-- what the code holds, without its spare room
abbrev pub so_far : Frames → FramesSoFar
so_far f = record { whole = map posted_of f.whole.items; begun = f.begun; posts = f.posts.items; bodies = f.bodies.items }

-- the call did what is defined: it added a record, or refused it
abbrev pub AddsFrames : FramesSoFar → FramesSoFar → Result (Unit {0}) FrameFault → Option FramesSoFar → Type 0
AddsFrames old new (Ok u) defined = defined ≡ Some new
AddsFrames old new (Err NotAllowed) defined = defined ≡ None
AddsFrames old new (Err NoMemory) defined = Unit {0}

-- what the records that are left make of the frames so far, where an `end` record that fits was met or not
abbrev pub left_from : Parts → ℕ → FramesSoFar → Option ℕ → ℕ → List Record → Result (List PostedFrame) ℕ
left_from s first f None k rest = frames_from s first f k rest
left_from s first f (Some e) k rest = closed f e rest

-- a fault says where the records stop
abbrev pub StopsBy : ShapeFault → Result (List PostedFrame) ℕ → Type 0
StopsBy ShapeMemory defined = Unit {0}
StopsBy (At index) defined = defined ≡ Err index
