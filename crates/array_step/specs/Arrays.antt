-- What the arrays of a caller stand for.
use Rattle.std.specs.Prelude.{ℕ, zero, suc, List, [], ◌∷◌, map, ◌+ℤ◌}
use Rattle.fixed_vec.specs.declared.vector.V2.{V2}
use Rattle.crowd_data.specs.declared.agent.Agent.{Agent}
use Rattle.crowd_data.specs.declared.limits.TheConstants.{LATEST_VERSION}
use Rattle.crowd_data.specs.declared.segment.Segment.{Segment}
use Rattle.crowd_data.specs.declared.frame.Body.{Body}
use Rattle.crowd_data.specs.declared.frame.Mark.{Mark}
use Rattle.crowd_data.specs.declared.frame.Mark.TheVariants.{Start, Feasible, Fallback, Stopped, Crowded}
use Rattle.crowd_data.specs.Limits.{plain_ring}
use Rattle.crowd_data.specs.Scenario.{Parts}
use Rattle.array_step.specs.declared.agent.CrowdAgent.{CrowdAgent}
use Rattle.array_step.specs.declared.segment.CrowdSegment.{CrowdSegment}

-- the weight that a field stands for: 0 is the default, by which all agents are equal
abbrev pub weight_of : ℕ → ℕ
weight_of zero = 1
weight_of (suc n) = suc n

-- the ring that a number stands for: 0 is the default, the plain one
abbrev pub ring_of : ℕ → ℕ
ring_of zero = plain_ring
ring_of (suc n) = suc n

abbrev pub agent_of : CrowdAgent → Agent
agent_of a = record {
  pos = record { x = a.x; y = a.y };
  vel = record { x = a.vel_x; y = a.vel_y };
  pref = record { x = a.pref_x; y = a.pref_y };
  radius = a.radius;
  speed = a.speed;
  range = a.range;
  most = a.most;
  horizon = a.horizon;
  wall_horizon = a.wall_horizon;
  weight = weight_of a.weight;
}

abbrev pub segment_of : CrowdSegment → Segment
segment_of s = record { a = record { x = s.ax; y = s.ay }; b = record { x = s.bx; y = s.by } }

-- the scenario of one step with these agents and segments, and nothing posted
abbrev pub scenario_of : List CrowdAgent → List CrowdSegment → ℕ → Parts
scenario_of agents segments ring = record {
  version = LATEST_VERSION;
  ring = ring_of ring;
  steps = 1;
  agents = map agent_of agents;
  segments = map segment_of segments;
  posts = [];
  goals = [];
}

abbrev pub mark_number : Mark → ℕ
mark_number Start = 0
mark_number Feasible = 1
mark_number Fallback = 2
mark_number Stopped = 3
mark_number Crowded = 4

-- an agent after a step with this advice: all else stays as it was
abbrev pub advised : CrowdAgent → V2 → Mark → ℕ → CrowdAgent
advised a vel mark relief = record a { x = a.x +ℤ vel.x; y = a.y +ℤ vel.y; vel_x = vel.x; vel_y = vel.y; mark = mark_number mark; relief = relief }

-- an agent after a step: where its body is, its velocity, mark and relief, and all else as it was
abbrev pub moved_by : CrowdAgent → Body → CrowdAgent
moved_by a body = record a { x = body.pos.x; y = body.pos.y; vel_x = body.vel.x; vel_y = body.vel.y; mark = mark_number body.mark; relief = body.relief }

-- each agent by the body of its number
abbrev pub all_moved : List CrowdAgent → List Body → List CrowdAgent
all_moved [] bodies = []
all_moved (a ∷ agents) [] = a ∷ agents
all_moved (a ∷ agents) (body ∷ bodies) = moved_by a body ∷ all_moved agents bodies
