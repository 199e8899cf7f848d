use Rattle.std.proofs.Common.{refl}
use Rattle.std.proofs.lemmas.Bool.{false≢true}
use Rattle.planar_line.proofs.Stretch.{level-same, level-none}
use Rattle.planar_line.proofs.span.Span.level.Goals as goal

pub returns-then-is_in-clause-exact : goal.returns-then-is_in-clause-exact
returns-then-is_in-clause-exact c =
    let flat = rw (← c.self.view_is) at c.requires in
    let held = rw c.foot.ensures at (c.if-is_in.ensures.0 refl) in
    let same = level-same _ c.args.plane.now c.self.invariant flat held in
    rw (← c.self.view_is) (λ t p. (λ w. (w, same p w), λ b. b.0))

pub returns-clause-none : goal.returns-clause-none
returns-clause-none c =
    let flat = rw (← c.self.view_is) at c.requires in
    let out = rw c.foot.ensures at (c.if-is_in.ensures.1) in
    rw (← c.self.view_is) (λ t. level-none _ c.args.plane.now c.self.invariant flat (λ h. false≢true (out h)))
