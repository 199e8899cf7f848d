use Rattle.std.proofs.Common.{◌≡◌, ◌++◌, List, IfOk, arith, sym, subst}
use Rattle.std.proofs.lemmas.Grind.{common_steps}
use Rattle.std.proofs.lemmas.Result.{IfOk-weaker}
use Rattle.post_box.specs.Ends.{AreOnceInOrder, IsBehind, PosterState}
use Rattle.post_box.proofs.Transfers.{finished}
use Rattle.post_box.proofs.post_box.finish.Goals as goal

pub returns-clause-once_in_order : goal.returns-clause-once_in_order
returns-clause-once_in_order g c =
    let t = c.loop-poster.taker in
    let all : c.args.posters.items ≡ c.loop-poster.yielded = grind (arith, common_steps, c.loop-poster.invariant.split, c.in-None.ensures) in
    subst (λ (posters : List PosterState). IfOk c.take_rest-left.result (λ left. AreOnceInOrder posters (c.args.taker.posts ++ left.items))) (sym all)
    (IfOk-weaker c.take_rest-left.result (λ left. IsBehind t left.items) (λ left. AreOnceInOrder c.loop-poster.yielded (c.args.taker.posts ++ left.items))
    (λ left. finished c.args.taker t c.loop-poster.yielded left.items c.loop-poster.invariant.taker) c.take_rest-left.ensures)
