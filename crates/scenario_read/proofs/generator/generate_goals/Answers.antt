use Rattle.std.proofs.Common.{◌∙◌, ◌+◌, ◌++◌, List, ap, drop, arith}
use Rattle.crowd_data.specs.declared.post.Goal.{Goal}
use Rattle.scenario_read.specs.Generator.{generated_goals}
use Rattle.scenario_read.proofs.GeneratedSteps.{goals_all, goals_more}
use Rattle.scenario_read.proofs.generator.generate_goals.Goals as goal

pub loop-number-preserved : goal.loop-number-preserved
loop-number-preserved c =
    let i = c.loop-number.invariant in
    record {
      goals =
          ap (λ (xs : List Goal). xs ++ generated_goals (c.loop-number.number + 1) (drop (c.loop-number.number + 1) c.args.agents.now)) c.push.ensures.items
          ∙ goals_more c.args.agents.now c.loop-number.goals.items _ c.loop-number.number _ c.generate_goal.result c.loop-number-test.true c.generate_goal.ensures i.goals;
      room = omega (arith, i.room, c.push.ensures.spare);
    }

pub returns : goal.returns
returns c = goals_all c.args.agents.now c.loop-number.goals.items _ c.loop-number.number (omega (arith, c.loop-number-test.false)) c.loop-number.invariant.goals
