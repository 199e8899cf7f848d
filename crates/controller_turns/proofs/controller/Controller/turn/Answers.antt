use Rattle.std.proofs.Common.{◌∙◌, ap, arith, sym, subst, length, List}
use Rattle.std.specs.Prelude.{Result, Ok, Err, OnErr}
use Rattle.crowd_data.specs.declared.post.Goal.{Goal}
use Rattle.crowd_data.specs.Run.{snapshot_of}
use Rattle.post_box.specs.Ends.{PosterState}
use Rattle.controller_turns.specs.Turns.{turn}
use Rattle.controller_turns.specs.Controllers.{HasPostedSome, IsSamePoster}
use Rattle.controller_turns.proofs.Posters.{posted_amid, posted_more}
use Rattle.controller_turns.proofs.controller.Controller.turn.Goals as goal

on_err : {T E : Type 0} (r : Result T E) (P : Type 0) → P → OnErr r P
on_err (Ok value) P p = tt
on_err (Err error) P p = p

pub pursue-requires-clause-poster : goal.pursue-requires-clause-poster
pursue-requires-clause-poster g c =
    let amid = posted_amid _ _ _ _ (snapshot_of c.args.frame.now) c.loop-goal.invariant.posted c.loop-goal.auto.goal-index-end in
    ap (λ (p : PosterState). p.queue) amid.0 ∙ c.requires.poster

pub pursue-requires-clause-agents : goal.pursue-requires-clause-agents
pursue-requires-clause-agents g c =
    let amid = posted_amid _ _ _ _ (snapshot_of c.args.frame.now) c.loop-goal.invariant.posted c.loop-goal.auto.goal-index-end in
    let same = ap (λ (p : PosterState). p.agents) amid.0 in
    omega (arith, same, c.requires.agents)

pub pursue-requires-clause-room : goal.pursue-requires-clause-room
pursue-requires-clause-room g c =
    let amid = posted_amid _ _ _ _ (snapshot_of c.args.frame.now) c.loop-goal.invariant.posted c.loop-goal.auto.goal-index-end in
    let same = ap (λ (p : PosterState). p.most) amid.0 in
    let goals = ap length c.loop-goal.invariant.goals in
    omega (arith, same, amid.1, goals, c.requires.room, c.loop-goal-test.true)

pub returns-in_err-pursue-clause-cut_short : goal.returns-in_err-pursue-clause-cut_short
returns-in_err-pursue-clause-cut_short g c =
    let amid = posted_amid _ _ _ _ (snapshot_of c.args.frame.now) c.loop-goal.invariant.posted c.loop-goal.auto.goal-index-end in
    on_err c.from_residual.result _
    (subst (λ (x : List Goal × PosterState). HasPostedSome c.args.poster.now (turn x.0 (snapshot_of c.args.frame.now)) x.1) (λ i. (c.loop-goal.invariant.goals i, sym c.in_err-pursue.ensures.refused i)) amid.2)

pub loop-goal-preserved : goal.loop-goal-preserved
loop-goal-preserved g c = record {
  goals = c.loop-goal.invariant.goals;
  posted = posted_more _ _ _ _ _ _ (snapshot_of c.args.frame.now) c.loop-goal.invariant.posted c.loop-goal-test.true c.in_ok-pursue.ensures.posted;
}

pub returns-in_err-pursue-clause-same_poster : goal.returns-in_err-pursue-clause-same_poster
returns-in_err-pursue-clause-same_poster g c =
    let amid = posted_amid _ _ _ _ (snapshot_of c.args.frame.now) c.loop-goal.invariant.posted c.loop-goal.auto.goal-index-end in
    subst (IsSamePoster c.args.poster.now) (sym c.in_err-pursue.ensures.refused) amid.0

pub returns-clause-same_poster : goal.returns-clause-same_poster
returns-clause-same_poster g c = (posted_amid _ _ _ _ (snapshot_of c.args.frame.now) c.loop-goal.invariant.posted c.loop-goal.auto.goal-index-end).0
