use Rattle.std.proofs.Common.{◌≡◌, ◌∙◌, List, length, sym, ap, subst, arith}
use Rattle.std.specs.List.{All}
use Rattle.exact_algebra.specs.Numbers.{ceil_root}
use Rattle.crowd_data.specs.declared.agent.Agent.{Agent}
use Rattle.crowd_data.specs.Limits.{IsAgent}
use Rattle.crowd_data.specs.Scenario.{IsValid}
use Rattle.scenario_read.specs.Generator.{generated_agents, generated_goals}
use Rattle.scenario_read.proofs.GeneratedParts.{agents_fit, few_columns, generated_valid, length-generated_agents, parts_are, some_columns}
use Rattle.scenario_read.proofs.generator.generate.Goals as goal

pub overflow_cast-side : goal.overflow_cast-side
overflow_cast-side c =
    let few = few_columns c.args.agents c.requires.agents in
    let side : c.ceil_root-side.result ≡ ceil_root c.args.agents = c.ceil_root-side.ensures ∙ ap ceil_root c.from.ensures in
    omega (arith, few, side)

pub generate_agents-requires-clause-some : goal.generate_agents-requires-clause-some
generate_agents-requires-clause-some c =
    let side : c.ceil_root-side.result ≡ ceil_root c.args.agents = c.ceil_root-side.ensures ∙ ap ceil_root c.from.ensures in
    omega (arith, some_columns c.args.agents c.requires.some_agents, side)

pub generate_agents-requires-clause-side : goal.generate_agents-requires-clause-side
generate_agents-requires-clause-side c =
    let side : c.ceil_root-side.result ≡ ceil_root c.args.agents = c.ceil_root-side.ensures ∙ ap ceil_root c.from.ensures in
    omega (arith, few_columns c.args.agents c.requires.agents, side)

pub generate_segments-requires : goal.generate_segments-requires
generate_segments-requires c =
    let side : c.ceil_root-side.result ≡ ceil_root c.args.agents = c.ceil_root-side.ensures ∙ ap ceil_root c.from.ensures in
    omega (arith, few_columns c.args.agents c.requires.agents, side)

pub generate_goals-requires-clause-fit : goal.generate_goals-requires-clause-fit
generate_goals-requires-clause-fit c =
    let side : c.ceil_root-side.result ≡ ceil_root c.args.agents = c.ceil_root-side.ensures ∙ ap ceil_root c.from.ensures in
    let crowd = c.items.ensures ∙ c.in_ok-crowd.ensures.agents ∙ ap (λ s. generated_agents s 0 c.args.agents c.args.number) side in
    subst (All IsAgent) (sym crowd) (agents_fit c.args.number c.args.agents c.requires.some_agents c.requires.agents)

pub generate_goals-requires-clause-count : goal.generate_goals-requires-clause-count
generate_goals-requires-clause-count c =
    let count = ap (λ (xs : List Agent). length xs) (c.items.ensures ∙ c.in_ok-crowd.ensures.agents) ∙ length-generated_agents c.ceil_root-side.result 0 c.args.agents c.args.number in
    omega (arith, count, c.requires.agents)

pub of-requires : goal.of-requires
of-requires c =
    let side : c.ceil_root-side.result ≡ ceil_root c.args.agents = c.ceil_root-side.ensures ∙ ap ceil_root c.from.ensures in
    let goals = c.in_ok-goals.ensures ∙ ap (λ (xs : List Agent). generated_goals 0 xs) c.items.ensures in
    subst IsValid
    (sym (parts_are c.args.number c.args.agents c.args.steps c.ceil_root-side.result _ _ _ _ _ side c.in_ok-crowd.ensures.agents c.in_ok-crowd.ensures.state c.in_ok-segments.ensures c.in_ok-posts.ensures goals))
    (generated_valid c.args.number c.args.agents c.args.steps c.requires.some_agents c.requires.agents c.requires.steps)
