use Rattle.std.proofs.Common.{◌≡◌, ◌∙◌, ◌+◌, ◌++◌, ◌∷◌, [], ap, append_assoc, arith, length, length-append, List, subst, sym, ℕ}
use Rattle.std.proofs.lemmas.Grind.{common_steps}
use Rattle.live_session.specs.declared.steered.Steered.{Steered}
use Rattle.live_session.specs.declared.steered.Steering.{Steering}
use Rattle.live_session.specs.Steering.{AreSteered, IsSteered, IsSteering}
use Rattle.live_session.proofs.Rows.{at_next, next_below, row_more}
use Rattle.live_session.proofs.joining.join_all.Goals as goal

pub loop-steering-preserved : goal.loop-steering-preserved
loop-steering-preserved g c =
    let inv = c.loop-steering.invariant in
    let done = c.loop-steering.yielded in
    let joined = c.loop-steering.joined.items in
    let one = c.in-Some.steering in
    let rest = c.next.new.self.rest.items in
    let e = c.push_reserved.ensures.items in
    let split : c.args.list.items ≡ (done ++ one ∷ []) ++ rest = grind (arith, common_steps, inv.split, c.in-Some.ensures) in
    let parts : c.args.list.items ≡ done ++ one ∷ rest = split ∙ append_assoc done (one ∷ []) rest in
    record {
      split = split;
      count = ap length e ∙ (length-append joined (c.in_ok-join.field-0 ∷ []) ∙ (ap (λ n. n + 1) inv.count ∙ sym (length-append done (one ∷ []))));
      room = omega (arith, inv.room, c.push_reserved.ensures.capacity);
      steered = λ box source history turns all.
          let mine = subst (λ (s : Steering). IsSteering box source history turns (length done) s) (at_next c.args.list.items done one rest one parts) (all (length done) one (next_below c.args.list.items done one rest parts)) in
          let here = subst (λ (n : ℕ). IsSteered box source history turns n c.in_ok-join.field-0) (sym inv.count) (c.in_ok-join.ensures box source history turns (length done) mine) in
          subst (λ (l : List Steered). AreSteered box source history turns l) (sym e)
          (row_more (IsSteered box source history turns) joined c.in_ok-join.field-0 (inv.steered box source history turns all) here);
    }
