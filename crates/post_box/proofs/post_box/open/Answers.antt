use Rattle.std.proofs.Common.{◌∙◌, ℕ, [], ◌∷◌, ◌++◌, length, map, ap, sym, arith, length-append}
use Rattle.std.specs.List.{range_with_len}
use Rattle.std.proofs.lemmas.List.FromFn.{map-range_with_len_more}
use Rattle.post_box.specs.Ends.{PosterState, first_poster}
use Rattle.post_box.proofs.post_box.open.Goals as goal

pub loop-controller-preserved : goal.loop-controller-preserved
loop-controller-preserved c =
    let inv = c.loop-controller.invariant in
    let first : ℕ → PosterState = first_poster c.in_ok-queue.queue c.args.agents c.args.most in
    let n = c.loop-controller.controller in record {
      queue = c.first_of.ensures.queue;
      taker = c.first_of.ensures.taker;
      posters = c.push_reserved.ensures.items
          ∙ (ap (λ l. l ++ c.first_of.result ∷ []) inv.posters ∙ (ap (λ (p : PosterState). map first (range_with_len 0 n) ++ p ∷ []) c.first_of.ensures.poster ∙ sym (map-range_with_len_more first 0 n n (omega arith))));
      count = (let pushed = ap length c.push_reserved.ensures.items in let more = length-append c.loop-controller.posters.items (c.first_of.result ∷ []) in let was = inv.count in omega arith);
      room = c.push_reserved.ensures.capacity ∙ inv.room;
    }
