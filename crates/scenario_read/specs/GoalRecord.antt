-- The record of a goal: goal,CONTROLLER,AGENT,X,Y,PACE
use Rattle.std.specs.Prelude.{◌==◌, if◌then◌else◌, nat_le, [], ◌∷◌, ◌++◌, length, Result, Ok, Err}
use Rattle.crowd_data.specs.declared.post.Goal.{Goal}
use Rattle.crowd_data.specs.declared.limits.TheConstants.{GREATEST_AGENT, GREATEST_CONTROLLER, GREATEST_COORDINATE, GREATEST_SPEED}
use Rattle.crowd_data.specs.Goals.{has_goal_for}
use Rattle.scenario_read.specs.declared.cause.Cause.{Cause}
use Rattle.scenario_read.specs.declared.cause.Cause.TheVariants.{FieldCount, GoalTwice, NoSuchAgent}
use Rattle.scenario_read.specs.Read.{Read}
use Rattle.scenario_read.specs.Records.{Record}
use Rattle.scenario_read.specs.Values.{and_then, count_in, vector_in}

unfoldable pub goal_of : Record → Result Goal Cause
goal_of fields =
    if length fields == 6
    then and_then (count_in fields 1 0 GREATEST_CONTROLLER) (λ controller.
    and_then (count_in fields 2 0 GREATEST_AGENT) (λ agent.
    and_then (vector_in fields 3 4 GREATEST_COORDINATE) (λ at.
    and_then (count_in fields 5 0 GREATEST_SPEED) (λ pace.
    Ok (record { controller = controller; agent = agent; at = at; pace = pace })))))
    else Err FieldCount

-- one goal more; goals need no greatest count, since an agent has at most one
abbrev pub with_goal : Read → Goal → Result Read Cause
with_goal p goal =
    if nat_le (length p.agents) goal.agent then Err NoSuchAgent
    else if has_goal_for p.goals goal.agent then Err GoalTwice
    else Ok (record p { goals = p.goals ++ goal ∷ [] })
