use Rattle.std.proofs.Common.{refl, arith}
use Rattle.fixed_vec.specs.Meeting.{relieved_after}
use Rattle.planar_line.specs.Span.{IsOnStretch}
use Rattle.planar_line.proofs.Reliefs.{length-relieved_after}
use Rattle.planar_line.proofs.Ranges.{range_fewer, meeting_range, narrows_none, narrows_more, narrows_meeting}
use Rattle.planar_line.proofs.span.Span.narrow.Goals as goal

pub loop-place-init : goal.loop-place-init
loop-place-init c = record { exact = narrows_none (relieved_after c.args.hard c.args.relief c.args.planes.now) (IsOnStretch c.args.self.now) c.args.from }

pub returns-then-not-cut_at-clause-none : goal.returns-then-not-cut_at-clause-none
returns-then-not-cut_at-clause-none c =
    let list = relieved_after c.args.hard c.args.relief c.args.planes.now in let k = c.loop-place.place in
    let long = length-relieved_after c.args.hard c.args.relief c.args.planes.now c.requires.hard in
    λ p w meets.
    let all = meeting_range list c.args.from c.args.to c.requires.order (omega arith) p meets in
    c.if-not-cut_at.ensures.none refl p ((c.loop-place.invariant.exact p).1 (w, range_fewer list c.args.from k c.args.to p (omega arith) all)) (all.at k (omega arith) (omega arith))

pub loop-place-preserved : goal.loop-place-preserved
loop-place-preserved c =
    let list = relieved_after c.args.hard c.args.relief c.args.planes.now in
    record { exact = narrows_more list (IsOnStretch c.loop-place.self) (IsOnStretch c.args.self.now) (IsOnStretch c.cut_at.new.self) c.args.from c.loop-place.place (omega arith) c.loop-place.invariant.exact (c.if-not-cut_at.ensures.exact refl) }

pub returns-clause-exact : goal.returns-clause-exact
returns-clause-exact c =
    let list = relieved_after c.args.hard c.args.relief c.args.planes.now in
    let long = length-relieved_after c.args.hard c.args.relief c.args.planes.now c.requires.hard in
    narrows_meeting list c.args.from c.args.to c.requires.order (omega arith) (IsOnStretch c.loop-place.self) (IsOnStretch c.args.self.now) c.loop-place.place (omega arith) (λ p w. w.on.point) c.loop-place.invariant.exact
