use Rattle.std.proofs.Common.{◌∙◌, ◌≢◌, sym, subst, true, arith, rules}
use Rattle.std.specs.List.{AllPairs}
use Rattle.std.proofs.lemmas.List.{length-set, take_all}
use Rattle.fixed_vec.specs.Vector.{zero_vector}
use Rattle.crowd_data.specs.declared.post.Goal.{Goal}
use Rattle.crowd_data.proofs.GoalTables.{goal_once, goal_twice, table_more, table_none}
use Rattle.crowd_data.proofs.validity.have_one_goal.Goals as goal
use Rattle.crowd_data.specs.declared.limits.TheConstants.{MOST_AGENTS}

abbrev no_goal : Goal
no_goal = record { controller = 0; agent = 0; at = zero_vector; pace = 0 }

pub loop-goal-init : goal.loop-goal-init
loop-goal-init c = record { size = omega arith; table = table_none MOST_AGENTS; one_goal = λ i j d before within same. absurd (omega (arith, within)) }

pub returns-then-table-agent : goal.returns-then-table-agent
returns-then-table-agent c = (
  λ e. cc e,
  λ apart.
      absurd
      (goal_twice c.args.goals.now c.loop-goal.goal-index _ c.loop-goal-test.true (sym (c.loop-goal.invariant.table _) ∙ c.if-table-agent.true) apart),
)

pub loop-goal-preserved : goal.loop-goal-preserved
loop-goal-preserved c =
    let fit = c.requires.fit c.loop-goal.goal-index no_goal c.loop-goal-test.true in
    record {
      size = length-set c.loop-goal.table _ true ∙ c.loop-goal.invariant.size;
      table = table_more c.loop-goal.table c.args.goals.now c.loop-goal.goal-index _ c.loop-goal-test.true (omega (arith, fit.agent, c.loop-goal.invariant.size, c.requires.count)) c.loop-goal.invariant.table;
      one_goal = goal_once c.args.goals.now c.loop-goal.goal-index _ c.loop-goal-test.true (sym (c.loop-goal.invariant.table _) ∙ c.if-table-agent.false) c.loop-goal.invariant.one_goal;
    }

pub returns : goal.returns
returns c = (
  λ e. subst (AllPairs (λ (g : Goal) (h : Goal). g.agent ≢ h.agent)) (take_all c.loop-goal.goal-index c.args.goals.now (omega (arith, c.loop-goal-test.false))) c.loop-goal.invariant.one_goal,
  λ apart. search rules,
)
