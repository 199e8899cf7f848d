use Rattle.std.proofs.lemmas.Bool.{false≢true}
use Rattle.fixed_vec.specs.Meeting.{relieved_after}
use Rattle.fixed_vec.specs.Point.{Rational}
use Rattle.planar_program.specs.Taken.{IsTakenWith}
use Rattle.planar_program.proofs.Places.{if_err, step-moved, step-emptied}
use Rattle.planar_program.proofs.optimum.take_in.Goals as goal

pub returns-in_ok-best-clause-best : goal.returns-in_ok-best-clause-best
returns-in_ok-best-clause-best c =
    let list = relieved_after c.args.hard c.args.relief c.args.planes.now in
    step-moved list c.args.place c.args.hard c.args.head c.args.head_end c.args.soft_end c.args.hard_end c.args.pref c.args.best.now c.requires.best
    (λ inside. false≢true (c.if-not-contains_at.ensures.1 inside)) c.in_ok-best.field-0 c.in_ok-best.ensures.best

pub returns-in_err-best-clause-none : goal.returns-in_err-best-clause-none
returns-in_err-best-clause-none c =
    let list = relieved_after c.args.hard c.args.relief c.args.planes.now in
    if_err ((v : Rational) → IsTakenWith list c.args.place c.args.hard c.args.head c.args.head_end c.args.soft_end c.args.hard_end v → ⊥) c.from_residual.result c.from_residual.ensures.0
    (step-emptied list c.args.place c.args.hard c.args.head c.args.head_end c.args.soft_end c.args.hard_end c.args.pref c.args.best.now c.requires.best
    (λ inside. false≢true (c.if-not-contains_at.ensures.1 inside)) c.in_err-best.ensures.none)
