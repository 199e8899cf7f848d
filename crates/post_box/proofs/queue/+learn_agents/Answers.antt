use Rattle.std.proofs.Common.{ap, arith, ◌∙◌}
use Rattle.post_box.specs.declared.view.Known.{Known}
use Rattle.post_box.proofs.Keeps.{learns_agents}
use Rattle.post_box.proofs.queue.+learn_agents.Goals as goal

pub another-requires-clause-rule : goal.another-requires-clause-rule
another-requires-clause-rule t c =
    let pass = c.learn_agents.new.pass in
    let is = c.learn_agents.ensures.agents in
    learns_agents pass.id pass.me.view.client _ (ap (λ (v : Known). v.role) is) (ap (λ (v : Known). v.controllers) is) (ap (λ (v : Known). v.final_posts) is) (omega arith)

pub another-requires-then-agents-eq1-clause-rule : goal.another-requires-then-agents-eq1-clause-rule
another-requires-then-agents-eq1-clause-rule t c =
    let pass = c.another.new.pass in
    let is = c.another.ensures.rule.0 in
    let was = c.learn_agents.ensures.agents in
    learns_agents pass.id pass.me.view.client _ (ap (λ (v : Known). v.role) is ∙ ap (λ (v : Known). v.role) was) (ap (λ (v : Known). v.controllers) is ∙ ap (λ (v : Known). v.controllers) was)
    (ap (λ (v : Known). v.final_posts) is ∙ ap (λ (v : Known). v.final_posts) was) (omega arith)
