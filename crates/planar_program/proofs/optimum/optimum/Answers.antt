use Rattle.std.proofs.Common.{◌≡◌, ◌∙◌, ◌+◌, length, [], ◌∷◌, refl, subst, arith}
use Rattle.planar_line.specs.Border.{greatest_preference}
use Rattle.exact_algebra.proofs.Machine.{computed, reads}
use Rattle.fixed_vec.specs.Meeting.{IsEmpty, Meeting, relieved_after}
use Rattle.fixed_vec.specs.Point.{Rational, whole}
use Rattle.planar_line.proofs.Reliefs.{length-relieved_after}
use Rattle.planar_line.proofs.Sizes.{point_by}
use Rattle.planar_line.proofs.Toward.{no_farther}
use Rattle.planar_program.specs.Taken.{IsTaken, IsTakenWith, IsBest}
use Rattle.planar_program.proofs.Steps.{same_best}
use Rattle.planar_program.proofs.Places.{if_err, best-start, first_more, soft_more, firm_more, none_meets, taken_meeting, meeting_taken}
use Rattle.planar_program.proofs.optimum.optimum.Goals as goal

pub loop-place-init : goal.loop-place-init
loop-place-init c =
    let list = relieved_after c.args.hard c.args.relief c.args.planes.now in
    let long = length-relieved_after c.args.hard c.args.relief c.args.planes.now c.requires.hard in
    let pref = c.args.pref in
    let start : c.of-best.result ≡ whole pref = c.of-best.ensures ∙ point_by _ _ _ (whole pref) c.of-start.result c.of-start.ensures
    (computed (pref.x ∷ pref.y ∷ []) (greatest_preference ∷ greatest_preference ∷ []) (c.requires.pref.across, (c.requires.pref.along, tt)) (search reads depth 40 fits 20000) tt)
    (computed (pref.x ∷ pref.y ∷ []) (greatest_preference ∷ greatest_preference ∷ []) (c.requires.pref.across, (c.requires.pref.along, tt)) (search reads depth 40 fits 20000) tt)
    refl in
    record { best = best-start list c.args.hard c.farthest_out-head.result pref c.of-best.result (omega arith) (omega arith) start }

pub loop-place-preserved : goal.loop-place-preserved
loop-place-preserved c =
    let list = relieved_after c.args.hard c.args.relief c.args.planes.now in
    let long = length-relieved_after c.args.hard c.args.relief c.args.planes.now c.requires.hard in
    let h = c.args.hard in let m = c.farthest_out-head.result in
    let k = c.loop-place.place in
    let more = λ (p : Rational). first_more list h m (omega arith) (omega arith) k p (omega arith) (omega arith) in
    record { best = same_best (IsTakenWith list k h m k h 0) (IsTaken list h m (k + 1) h 0) c.args.pref c.take_in.new.best more c.in_ok-take_in.ensures.best }

pub returns-in_err-take_in-clause-none : goal.returns-in_err-take_in-clause-none
returns-in_err-take_in-clause-none c =
    let list = relieved_after c.args.hard c.args.relief c.args.planes.now in
    let long = length-relieved_after c.args.hard c.args.relief c.args.planes.now c.requires.hard in
    let h = c.args.hard in let m = c.farthest_out-head.result in
    let k = c.loop-place.place in
    let empty = none_meets list h m (omega arith) (omega arith) k k h 0 (omega arith) (omega arith) (omega arith) (omega arith) (omega arith) (omega arith) c.in_err-take_in.ensures.none in
    if_err (IsEmpty list) c.from_residual.result c.from_residual.ensures.0 empty

pub loop-place-2-init : goal.loop-place-2-init
loop-place-2-init c =
    let list = relieved_after c.args.hard c.args.relief c.args.planes.now in
    let long = length-relieved_after c.args.hard c.args.relief c.args.planes.now c.requires.hard in
    let h = c.args.hard in let m = c.farthest_out-head.result in let e = c.min-head_end.result in
    let all : c.loop-place.place ≡ e = omega arith in
    record { best = subst (λ k. IsBest (IsTaken list h m k h 0) c.args.pref c.loop-place.best) all c.loop-place.invariant.best }

pub loop-place-2-preserved : goal.loop-place-2-preserved
loop-place-2-preserved c =
    let list = relieved_after c.args.hard c.args.relief c.args.planes.now in
    let long = length-relieved_after c.args.hard c.args.relief c.args.planes.now c.requires.hard in
    let h = c.args.hard in let m = c.farthest_out-head.result in let e = c.min-head_end.result in
    let k = c.loop-place-2.place in
    let more = λ (p : Rational). soft_more list h m (omega arith) (omega arith) e k p (omega arith) (omega arith) in
    record { best = same_best (IsTakenWith list k h m e k 0) (IsTaken list h m e (k + 1) 0) c.args.pref c.take_in-in-loop-place-2.new.best more c.in_ok-take_in-2.ensures.best }

pub returns-in_err-take_in-2-clause-none : goal.returns-in_err-take_in-2-clause-none
returns-in_err-take_in-2-clause-none c =
    let list = relieved_after c.args.hard c.args.relief c.args.planes.now in
    let long = length-relieved_after c.args.hard c.args.relief c.args.planes.now c.requires.hard in
    let h = c.args.hard in let m = c.farthest_out-head.result in let e = c.min-head_end.result in
    let k = c.loop-place-2.place in
    let empty = none_meets list h m (omega arith) (omega arith) k e k 0 (omega arith) (omega arith) (omega arith) (omega arith) (omega arith) (omega arith) c.in_err-take_in-2.ensures.none in
    if_err (IsEmpty list) c.from_residual-in_err-take_in-2.result c.from_residual-in_err-take_in-2.ensures.0 empty

pub loop-place-3-init : goal.loop-place-3-init
loop-place-3-init c =
    let list = relieved_after c.args.hard c.args.relief c.args.planes.now in
    let long = length-relieved_after c.args.hard c.args.relief c.args.planes.now c.requires.hard in
    let h = c.args.hard in let m = c.farthest_out-head.result in let e = c.min-head_end.result in let n = length c.args.planes.now in
    let all : c.loop-place-2.place ≡ n = omega arith in
    record { best = subst (λ k. IsBest (IsTaken list h m e k 0) c.args.pref c.loop-place-2.best) all c.loop-place-2.invariant.best }

pub loop-place-3-preserved : goal.loop-place-3-preserved
loop-place-3-preserved c =
    let list = relieved_after c.args.hard c.args.relief c.args.planes.now in
    let long = length-relieved_after c.args.hard c.args.relief c.args.planes.now c.requires.hard in
    let h = c.args.hard in let m = c.farthest_out-head.result in let e = c.min-head_end.result in let n = length c.args.planes.now in
    let k = c.loop-place-3.place in
    let more = λ (p : Rational). firm_more list h m (omega arith) (omega arith) e n k p (omega arith) in
    record { best = same_best (IsTakenWith list k h m e n k) (IsTaken list h m e n (k + 1)) c.args.pref c.take_in-in-loop-place-3.new.best more c.in_ok-take_in-3.ensures.best }

pub returns-in_err-take_in-3-clause-none : goal.returns-in_err-take_in-3-clause-none
returns-in_err-take_in-3-clause-none c =
    let list = relieved_after c.args.hard c.args.relief c.args.planes.now in
    let long = length-relieved_after c.args.hard c.args.relief c.args.planes.now c.requires.hard in
    let h = c.args.hard in let m = c.farthest_out-head.result in let e = c.min-head_end.result in let n = length c.args.planes.now in
    let k = c.loop-place-3.place in
    let empty = none_meets list h m (omega arith) (omega arith) k e n k (omega arith) (omega arith) (omega arith) (omega arith) (omega arith) (omega arith) c.in_err-take_in-3.ensures.none in
    if_err (IsEmpty list) c.from_residual-in_err-take_in-3.result c.from_residual-in_err-take_in-3.ensures.0 empty

pub returns : goal.returns
returns c =
    let list = relieved_after c.args.hard c.args.relief c.args.planes.now in
    let long = length-relieved_after c.args.hard c.args.relief c.args.planes.now c.requires.hard in
    let h = c.args.hard in let m = c.farthest_out-head.result in let e = c.min-head_end.result in let n = length c.args.planes.now in
    let k = c.loop-place-3.place in
    let p = c.loop-place-3.best in
    let best = c.loop-place-3.invariant.best in
    let meets = taken_meeting list h m (omega arith) (omega arith) e n k p (omega arith) (omega arith) best.inside in
    let turns = λ (v : Rational) (all : Meeting list v). best.toward v (meeting_taken list h m (omega arith) (omega arith) e n k v (omega arith) (omega arith) (omega arith) (omega arith) (omega arith) all) in
    rw c.point.ensures (record {
      nearest = record { meets = meets; no_farther = λ v all. no_farther c.args.pref p v all.point (turns v all) };
      toward = turns;
      none = tt;
    })
