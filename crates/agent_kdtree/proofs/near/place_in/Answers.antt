use Rattle.std.proofs.Common.{◌≡◌, ℕ, ◌<◌, ◌≤◌, length, subst, sym, ap, ◌∙◌, arith, List, take}
use Rattle.std.proofs.lemmas.List.{take-map}
use Rattle.std.specs.List.{insert}
use Rattle.crowd_data.specs.Neighbours.{Seen, placed_in}
use Rattle.agent_kdtree.specs.declared.near.Near.{Near}
use Rattle.agent_kdtree.specs.Seen.{seen_all, seen_of}
use Rattle.agent_kdtree.proofs.Order.{full_place, open_place}
use Rattle.agent_kdtree.proofs.near.place_in.Goals as goal
use Rattle.agent_kdtree.proofs.near.place_in.Goals.{then-len-most, else-len-most}

-- cut after the first ones, before or after the records are seen
cut : (most at : ℕ) (near : Near) (l new : List Near) → new ≡ take most (insert l at near) → placed_in (seen_of near) (seen_all l) ≡ seen_all (insert l at near)
    → seen_all new ≡ take most (placed_in (seen_of near) (seen_all l))
cut most at near l new e f = ap (λ (t : List Near). seen_all t) e ∙ sym (take-map seen_of most (insert l at near)) ∙ ap (λ (t : List Seen). take most t) (sym f)

pub returns-after-len-most : goal.returns-after-len-most
returns-after-len-most c =
    let l : List Near = c.args.best.now.items in
    let at = c.place_for-at.result in
    let s : c.as_slice.result.now ≡ l = c.as_slice.ensures.value in
    let e : placed_in (seen_of c.args.near) (seen_all l) ≡ seen_all (insert l at c.args.near) =
    subst (λ (t : List Near). placed_in (seen_of c.args.near) (seen_all t) ≡ seen_all (insert t at c.args.near)) s c.place_for-at.ensures.value in
    let within = subst (λ (t : List Near). at ≤ length t) s c.place_for-at.ensures.within in
    elim c.if-len-most.branch [
      | then-len-most w ↦
          let full : length l ≡ c.args.most = omega (arith, c.len.ensures.value) in
          let f = full_place c.args.most at c.args.near l c.if-at-most.true full in
          cut c.args.most at c.args.near l _ (c.insert.ensures.items ∙ ap (λ (t : List Near). insert t at c.args.near) (rw w.best-is w.pop.ensures.rest) ∙ f) e
      | else-len-most w ↦
          let below : length l < c.args.most = omega (arith, c.len.ensures.value, c.requires.room) in
          let f = open_place c.args.most at c.args.near l within below in
          cut c.args.most at c.args.near l _ (c.insert.ensures.items ∙ rw w.best-is f) e
    ]
