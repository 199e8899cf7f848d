use Rattle.std.proofs.Common.{refl}
use Rattle.std.proofs.lemmas.Bool.{false≢true}
use Rattle.planar_line.proofs.Stretch.{raised-same, raised-none, raised-stretch, raised-exact}
use Rattle.planar_line.proofs.span.Span.raise.Goals as goal

pub returns-then-is_end_in-clause-exact : goal.returns-then-is_end_in-clause-exact
returns-then-is_end_in-clause-exact c =
    let rises = rw (← c.self.view_is) at c.requires in
    let same = raised-same _ c.args.plane.now c.self.invariant rises (c.if-is_end_in.ensures.0 refl) in
    rw (← c.self.view_is) (λ t p. (λ w. (w, same p w), λ b. b.0))

pub returns-then-not-is_no_end_out-clause-none : goal.returns-then-not-is_no_end_out-clause-none
returns-then-not-is_no_end_out-clause-none c =
    let rises = rw (← c.self.view_is) at c.requires in
    rw (← c.self.view_is) (λ t. raised-none _ c.args.plane.now c.self.invariant rises (λ h. false≢true (c.if-not-is_no_end_out.ensures.1 h)))

pub invariant_of-self-2 : goal.invariant_of-self-2
invariant_of-self-2 c =
    let rises = rw (← c.self.view_is) at c.requires in
    rw (c.of.ensures, c.crossing.ensures) (raised-stretch _ c.args.plane.now c.self.invariant rises (c.if-not-is_no_end_out.ensures.0 refl))

pub returns-clause-exact : goal.returns-clause-exact
returns-clause-exact c =
    let rises = rw (← c.self.view_is) at c.requires in
    rw (← c.self.view_is, c.of.ensures, c.crossing.ensures) (λ t. raised-exact _ c.args.plane.now c.self.invariant rises (λ h. false≢true (c.if-is_end_in.ensures.1 h)))
