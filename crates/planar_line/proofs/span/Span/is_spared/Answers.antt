use Rattle.std.proofs.Common.{pos, ◌<ℤ◌, rules}
use Rattle.planar_line.proofs.Stretch.{raised-same, lowered-same}
use Rattle.planar_line.proofs.span.Span.is_spared.Goals as goal

pub returns-then-slope-gt0 : goal.returns-then-slope-gt0
returns-then-slope-gt0 c =
    let sign : pos 0 <ℤ c.slope-slope.result = search rules in
    let rises = rw c.slope-slope.ensures at sign in
    rw (← c.self.view_is) (λ held. raised-same _ c.args.plane.now c.self.invariant rises (c.is_end_in.ensures.0 held))

pub returns-then-slope-lt0 : goal.returns-then-slope-lt0
returns-then-slope-lt0 c =
    let sign : c.slope-slope.result <ℤ pos 0 = search rules in
    let falls = rw c.slope-slope.ensures at sign in
    rw (← c.self.view_is) (λ held. lowered-same _ c.args.plane.now c.self.invariant falls (c.is_end_in-then-slope-lt0.ensures.0 held))
