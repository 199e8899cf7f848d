use Rattle.std.proofs.Common.{◌≡◌, ◌∙◌, ◌+◌, ◌++◌, ◌∷◌, [], ap, append_assoc, arith, length, length-append, List, subst, sym, ℕ}
use Rattle.std.proofs.lemmas.Grind.{common_steps}
use Rattle.controller_turns.specs.Controllers.{ControllerState}
use Rattle.live_session.specs.declared.steered.Steering.{Steering}
use Rattle.live_session.specs.Steering.{AreSteering, IsSteering}
use Rattle.live_session.proofs.Rows.{next_below, row_more}
use Rattle.crowd_data.proofs.Controllers.{controllers_few}
use Rattle.live_session.proofs.Standing.{length-first_posters, next_poster}
use Rattle.live_session.proofs.starting.start_all.Goals as goal

pub bounds-notices-len : goal.bounds-notices-len
bounds-notices-len g c =
    let inv = c.loop-poster.invariant in
    let done = c.loop-poster.yielded in
    let rest = c.next.new.self.rest.items in
    let split : c.args.posters.items ≡ (done ++ c.in-Some.poster ∷ []) ++ rest = grind (arith, common_steps, inv.split, c.in-Some.ensures) in
    let below = next_below c.args.posters.items done c.in-Some.poster rest (split ∙ append_assoc done (c.in-Some.poster ∷ []) rest) in
    let all = ap length c.requires.posters ∙ length-first_posters c.args.posts.now c.args.scenario.now in
    omega (arith, below, all, c.requires.notices, inv.count, c.len-in-loop-poster.ensures)

pub overflow_cast-len : goal.overflow_cast-len
overflow_cast-len g c =
    let inv = c.loop-poster.invariant in
    let done = c.loop-poster.yielded in
    let rest = c.next.new.self.rest.items in
    let split : c.args.posters.items ≡ (done ++ c.in-Some.poster ∷ []) ++ rest = grind (arith, common_steps, inv.split, c.in-Some.ensures) in
    let below = next_below c.args.posters.items done c.in-Some.poster rest (split ∙ append_assoc done (c.in-Some.poster ∷ []) rest) in
    let all = ap length c.requires.posters ∙ length-first_posters c.args.posts.now c.args.scenario.now in
    let few = controllers_few (length c.args.scenario.now.agents) c.args.scenario.now.goals c.goals-valid.ensures.valid.goals in
    omega (arith, below, all, few, inv.count, c.len-in-loop-poster-2.ensures)

pub start-requires-clause-poster : goal.start-requires-clause-poster
start-requires-clause-poster g c κs lives =
    let inv = c.loop-poster.invariant in
    let done = c.loop-poster.yielded in
    let rest = c.next.new.self.rest.items in
    let split : c.args.posters.items ≡ (done ++ c.in-Some.poster ∷ []) ++ rest = grind (arith, common_steps, inv.split, c.in-Some.ensures) in
    let number = ap (λ (x : ControllerState). x.number) c.in_ok-controller.ensures in
    next_poster c.args.posts.now c.args.scenario.now c.args.posters.items done c.in-Some.poster rest c.in_ok-controller.controller.number c.requires.posters (split ∙ append_assoc done (c.in-Some.poster ∷ []) rest)
    (omega (arith, number, c.len-in-loop-poster-2.ensures, inv.count))

pub start-requires-clause-reader : goal.start-requires-clause-reader
start-requires-clause-reader g c κs lives = c.next_reader.ensures.next (g.J.Writes.book, c.args.scenario.now) c.loop-poster.invariant.readers

pub loop-poster-preserved : goal.loop-poster-preserved
loop-poster-preserved g c =
    let inv = c.loop-poster.invariant in
    let done = c.loop-poster.yielded in
    let list = c.loop-poster.list.items in
    let rest = c.next.new.self.rest.items in
    let e = c.push_reserved.ensures.items in
    let split : c.args.posters.items ≡ (done ++ c.in-Some.poster ∷ []) ++ rest = grind (arith, common_steps, inv.split, c.in-Some.ensures) in
    let of = ap (λ (x : ControllerState). x.number) c.in_ok-controller.ensures in
    let number : c.in_ok-controller.controller.number ≡ length list = omega (arith, of, c.len-in-loop-poster-2.ensures) in
    let here = subst (λ (n : ℕ). IsSteering c.args.posts.now (g.J.Writes.book, c.args.scenario.now) [] 0 n c.in_ok-steering.steering) number c.in_ok-steering.ensures in
    record {
      split = split;
      count = ap length e ∙ (length-append list (c.in_ok-steering.steering ∷ []) ∙ (ap (λ n. n + 1) inv.count ∙ sym (length-append done (c.in-Some.poster ∷ []))));
      room = omega (arith, inv.room, c.push_reserved.ensures.capacity);
      readers = c.next_reader.ensures.left (g.J.Writes.book, c.args.scenario.now) inv.readers;
      steering = subst (λ (l : List Steering). AreSteering c.args.posts.now (g.J.Writes.book, c.args.scenario.now) [] 0 l) (sym e)
          (row_more (IsSteering c.args.posts.now (g.J.Writes.book, c.args.scenario.now) [] 0) list c.in_ok-steering.steering inv.steering here);
    }

pub returns-clause-count : goal.returns-clause-count
returns-clause-count g c =
    let inv = c.loop-poster.invariant in
    let whole : length c.loop-poster.yielded ≡ length c.args.posters.items = grind (arith, common_steps, inv.split, c.in-None.ensures) in
    inv.count ∙ (whole ∙ (ap length c.requires.posters ∙ length-first_posters c.args.posts.now c.args.scenario.now))
