use Rattle.std.proofs.Common.{◌≡◌, ◌≤◌, ◌<◌, ◌+◌, length, map, take}
use Rattle.std.specs.List.{All}
use Rattle.std.specs.Prelude.{slice_index_or}
use Rattle.crowd_data.specs.declared.agent.Agent.{Agent}
use Rattle.crowd_data.specs.declared.limits.TheConstants.{GREATEST_SPEED}
use Rattle.agent_step.proofs.shared_polygons.speeds_of.Given as goal

-- the places of the speeds of the agents so far, and room for those of the others
abbrev pub invariant-loop-agent : goal.invariant-loop-agent
invariant-loop-agent l = record {
  places : map (λ k. slice_index_or l.speeds.items k 0) l.places.items ≡ map (λ (agent : Agent). agent.speed) (take l.agent-index l.agents);
  within : All (λ k. k < length l.speeds.items) l.places.items;
  slow : All (λ speed. speed ≤ GREATEST_SPEED) l.speeds.items;
  few : length l.speeds.items ≤ l.agent-index;
  room : length l.agents ≤ l.agent-index + l.speeds.spare;
  room_too : length l.agents ≤ l.agent-index + l.places.spare;
}
