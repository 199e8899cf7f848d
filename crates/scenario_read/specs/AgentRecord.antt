-- The record of an agent: agent,X,Y,VX,VY,PX,PY,RADIUS,SPEED,RANGE,MOST,HORIZON,WALL HORIZON
-- and, behind these in version 2, WEIGHT
use Rattle.std.specs.Prelude.{ℕ, ◌==◌, if◌then◌else◌, nat_lt, [], ◌∷◌, ◌++◌, length, Result, Ok, Err}
use Rattle.crowd_data.specs.declared.agent.Agent.{Agent}
use Rattle.crowd_data.specs.declared.limits.TheConstants.{FIRST_VERSION, GREATEST_COORDINATE, GREATEST_HORIZON, GREATEST_RADIUS, GREATEST_RANGE, GREATEST_SPEED, GREATEST_WEIGHT, MOST_AGENTS, MOST_NEIGHBOURS}
use Rattle.scenario_read.specs.declared.cause.Cause.{Cause}
use Rattle.scenario_read.specs.declared.cause.Cause.TheVariants.{FieldCount, TooMany}
use Rattle.scenario_read.specs.declared.motion.Motion.{Motion}
use Rattle.scenario_read.specs.Read.{Read}
use Rattle.scenario_read.specs.Records.{Record}
use Rattle.scenario_read.specs.Values.{and_then, count_in, vector_in}

-- where an agent is, how it moves and how it wants to move
unfoldable pub motion_in : Record → Result Motion Cause
motion_in fields =
    and_then (vector_in fields 1 2 GREATEST_COORDINATE) (λ at.
    and_then (vector_in fields 3 4 GREATEST_SPEED) (λ vel.
    and_then (vector_in fields 5 6 GREATEST_SPEED) (λ pref. Ok (record { pos = at; vel = vel; pref = pref }))))

-- how many fields the record has
abbrev pub agent_fields : ℕ → ℕ
agent_fields version = if version == FIRST_VERSION then 13 else 14

-- in version 1 each weight is 1
unfoldable pub weight_in : ℕ → Record → Result ℕ Cause
weight_in version fields = if version == FIRST_VERSION then Ok 1 else count_in fields 13 1 GREATEST_WEIGHT

unfoldable pub agent_with : ℕ → Record → Motion → Result Agent Cause
agent_with version fields motion =
    and_then (count_in fields 7 1 GREATEST_RADIUS) (λ radius.
    and_then (count_in fields 8 0 GREATEST_SPEED) (λ speed.
    and_then (count_in fields 9 0 GREATEST_RANGE) (λ range.
    and_then (count_in fields 10 0 MOST_NEIGHBOURS) (λ most.
    and_then (count_in fields 11 1 GREATEST_HORIZON) (λ horizon.
    and_then (count_in fields 12 1 GREATEST_HORIZON) (λ wall_horizon.
    and_then (weight_in version fields) (λ weight.
    Ok
    (record {
      pos = motion.pos;
      vel = motion.vel;
      pref = motion.pref;
      radius = radius;
      speed = speed;
      range = range;
      most = most;
      horizon = horizon;
      wall_horizon = wall_horizon;
      weight = weight;
    }))))))))

unfoldable pub agent_of : ℕ → Record → Result Agent Cause
agent_of version fields = if length fields == agent_fields version then and_then (motion_in fields) (agent_with version fields) else Err FieldCount

-- one agent more
abbrev pub with_agent : Read → Agent → Result Read Cause
with_agent p agent = if nat_lt (length p.agents) MOST_AGENTS then Ok (record p { agents = p.agents ++ agent ∷ [] }) else Err TooMany
