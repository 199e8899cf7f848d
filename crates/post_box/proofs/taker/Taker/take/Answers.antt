use Rattle.std.proofs.Common.{[], ◌∷◌, length, ap, arith, length-append}
use Rattle.post_box.proofs.Transfers.{Transfers-push}
use Rattle.post_box.proofs.taker.Taker.take.Goals as goal

pub loop-preserved : goal.loop-preserved
loop-preserved g c =
    let inv = c.loop.invariant in
    let more = length-append c.loop.into.items (c.in-Some.post ∷ []) in
    let pushed = ap length c.push.ensures.items in record {
      moved = Transfers-push c.args.self.now c.loop.self c.pop.new.self c.args.into.now.items c.loop.into.items c.push.new.self.items c.in-Some.post inv.moved c.in-Some.ensures.post.0 c.in-Some.ensures.post.1
          c.push.ensures.items;
      count = omega arith;
      spare = omega arith;
    }
