-- The agents that came out of a step make up a scenario again, unless one has left the world.
use Rattle.std.proofs.Common.{◌≡◌, ◌∙◌, ℕ, ◌<◌, List, length, map, ap, sym, subst, arith}
use Rattle.std.specs.List.{All}
use Rattle.std.proofs.lemmas.List.{get_or-map, length-map}
use Rattle.std.proofs.lemmas.List.Elements.{All-from_get_or, All-map}
use Rattle.crowd_data.specs.declared.agent.Agent.{Agent}
use Rattle.crowd_data.specs.declared.frame.Body.{Body}
use Rattle.crowd_data.specs.Advice.{agent_at, nobody}
use Rattle.crowd_data.specs.Limits.{IsAgent, IsPosition}
use Rattle.crowd_data.specs.Run.{Snapshot, body_at, no_body}
use Rattle.crowd_data.specs.Scenario.{IsValid}
use Rattle.crowd_data.specs.Walls.{IsClear}
use Rattle.run_law.proofs.Sound.{IsSound}
use Rattle.array_step.specs.declared.agent.CrowdAgent.{CrowdAgent}
use Rattle.array_step.specs.declared.segment.CrowdSegment.{CrowdSegment}
use Rattle.array_step.specs.Arrays.{agent_of, all_moved, scenario_of, segment_of}
use Rattle.array_step.specs.Steps.{AllInside}
use Rattle.array_step.proofs.MovedAgents.{item-all_moved, length-all_moved}
use Rattle.array_step.proofs.StrayAgent.{stray}

-- an agent after a step, as the scenario has it
abbrev moved_agent : Agent → Body → Agent
moved_agent agent body = record agent { pos = body.pos; vel = body.vel }

module _ (agents : List CrowdAgent) (segments : List CrowdSegment) (ring : ℕ) (next : Snapshot) (valid : IsValid (scenario_of agents segments ring))
    (sound : IsSound (scenario_of agents segments ring) next) (inside : AllInside (all_moved agents next.bodies)) where
  abbrev new : List Agent
  new = map agent_of (all_moved agents next.bodies)

  here : (who : ℕ) → who < length new → who < length agents
  here who h = omega (arith, h, length-map (all_moved agents next.bodies) agent_of, length-all_moved agents next.bodies)

  known : (who : ℕ) → who < length new → who < length (map agent_of agents)
  known who h = omega (arith, here who h, length-map agents agent_of)

  is_moved : (who : ℕ) → who < length new → agent_at new who ≡ moved_agent (agent_at (map agent_of agents) who) (body_at next.bodies who)
  is_moved who h =
      get_or-map agent_of (all_moved agents next.bodies) who stray nobody (omega (arith, here who h, length-all_moved agents next.bodies))
      ∙ ap agent_of (item-all_moved agents next.bodies who stray (omega (arith, sound.full, length-map agents agent_of)) (here who h))
      ∙ ap (λ (agent : Agent). moved_agent agent (body_at next.bodies who)) (sym (get_or-map agent_of agents who stray nobody (here who h)))

  moved_agents : (who : ℕ) → who < length new → IsAgent (agent_at new who)
  moved_agents who h =
      let before = valid.agents who nobody (known who h) in
      let near = All-map (λ (agent : Agent). IsPosition agent.pos) agent_of (all_moved agents next.bodies) inside who nobody h in
      let same = is_moved who h in
      subst IsAgent (sym same)
      (record {
        pos = subst (λ (agent : Agent). IsPosition agent.pos) same near;
        vel = sound.slow who no_body (omega (arith, known who h, sound.full));
        pref = before.pref;
        build = record {
          some_radius = before.build.some_radius;
          radius = before.build.radius;
          speed = before.build.speed;
          range = before.build.range;
          most = before.build.most;
          some_horizon = before.build.some_horizon;
          horizon = before.build.horizon;
          some_wall_horizon = before.build.some_wall_horizon;
          wall_horizon = before.build.wall_horizon;
          weight = before.build.weight;
        };
      })

  moved_clear : (who : ℕ) → who < length new → All (IsClear (agent_at new who).pos (agent_at new who).radius) (map segment_of segments)
  moved_clear who h = subst (λ (agent : Agent). All (IsClear agent.pos agent.radius) (map segment_of segments)) (sym (is_moved who h)) (sound.clear who (known who h))

  pub valid_again : IsValid (scenario_of (all_moved agents next.bodies) segments ring)
  valid_again = record {
    version = valid.version;
    ring = valid.ring;
    plain = λ first. absurd (omega (arith, first));
    steps = valid.steps;
    agent_count = omega (arith, valid.agent_count, length-map agents agent_of, length-map (all_moved agents next.bodies) agent_of, length-all_moved agents next.bodies);
    segment_count = valid.segment_count;
    post_count = valid.post_count;
    agents = All-from_get_or IsAgent new nobody moved_agents;
    segments = valid.segments;
    posts = λ k d h. absurd (omega arith);
    post_order = valid.post_order;
    goals = λ k d h. absurd (omega arith);
    one_goal = valid.one_goal;
    clear = All-from_get_or (λ (agent : Agent). All (IsClear agent.pos agent.radius) (map segment_of segments)) new nobody moved_clear;
  }
