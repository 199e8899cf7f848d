use Rattle.std.proofs.Common.{◌≡◌, ◌∙◌, ◌<◌, ◌+◌, [], ap, arith, length, slice_index_or, subst}
use Rattle.std.proofs.lemmas.List.{get_or_default}
use Rattle.crowd_data.specs.Run.{IsNext, Snapshot, body_at}
use Rattle.array_step.specs.declared.agent.CrowdAgent.{CrowdAgent}
use Rattle.array_step.specs.Arrays.{advised, moved_by}
use Rattle.array_step.proofs.MovedAgents.{all_have, here_moved, later_kept, one_more}
use Rattle.array_step.proofs.first_step.move_each.Goals as goal

pub loop-k-preserved : goal.loop-k-preserved
loop-k-preserved c =
    let state = c.args.crowd.now in
    let first = c.args.first in
    let old = c.args.agents.now in
    let now = c.loop-k.agents in
    let k = c.loop-k.k in
    let advice = c.advise-advice.result in
    let count = c.loop-k.auto.agents in
    let inside : k < length old = omega (arith, c.loop-k-test.true, count) in
    record {
      moved = λ next step j d h.
          let was = get_or_default now k _ d (omega (arith, inside, count)) ∙ c.loop-k.invariant.later k d (omega arith) in
          let here = c.advised.ensures ∙ ap (λ (a : CrowdAgent). advised a advice.vel advice.mark advice.relief) was
          ∙ here_moved state first old c.requires.there c.requires.are c.requires.start k d inside advice.vel advice.mark advice.relief c.advise-advice.ensures.advice next step in
          one_more now k c.advised.result d (λ i after. after ≡ moved_by (slice_index_or old i d) (body_at next.bodies (first + i))) (omega (arith, inside, count))
          (λ i l. c.loop-k.invariant.moved next step i d l) here j h;
      later = λ j d h. later_kept now k c.advised.result d old (λ i l. c.loop-k.invariant.later i d l) j h;
      room = c.advise-advice.ensures.room ∙ c.loop-k.invariant.room;
    }

pub returns-clause-moved : goal.returns-clause-moved
returns-clause-moved c next step =
    let scenario = c.args.crowd.now.scenario in
    let old = c.args.agents.now in
    all_have scenario c.args.first old c.requires.there c.requires.are next c.loop-k.agents (subst (λ (frame : Snapshot). IsNext scenario frame [] next) c.requires.start step)
    c.loop-k.auto.agents (λ k d h. c.loop-k.invariant.moved next step k d (omega (arith, h, c.loop-k-test.false, c.loop-k.auto.agents)))
