use Rattle.std.proofs.Common.{rules, ◌∙◌, ℕ, sym, ap, subst}
use Rattle.std.specs.Prelude.{unwrap_or, length}
use Rattle.std.specs.List.{All}
use Rattle.std.specs.declared.option.Option.{Option}
use Rattle.crowd_data.specs.Limits.{IsRing, IsScriptPost}
use Rattle.crowd_data.specs.Scenario.{HasPlainParts}
use Rattle.crowd_data.specs.declared.limits.TheConstants.{FIRST_VERSION}
use Rattle.scenario_read.proofs.KnownParts.{ring_or_plain, version_known}
use Rattle.scenario_read.proofs.ending.finish.Goals as goal

pub of-requires : goal.of-requires
of-requires c =
    let reading = c.args.reading in
    let version_is = ap (λ (o : Option ℕ). unwrap_or o FIRST_VERSION) c.in-Some.is in
    record {
      version = version_known c.in-Some.version (reading.some_version c.in-Some.version c.in-Some.is);
      ring = subst IsRing (sym c.unwrap_or.ensures) (ring_or_plain reading.ring reading.some_ring);
      plain = λ first. subst (λ points. HasPlainParts points reading.agents.items) (sym c.unwrap_or.ensures) (reading.plain (version_is ∙ first));
      steps = reading.some_steps c.in-Some-steps.steps c.in-Some-steps.is;
      agent_count = reading.agent_count;
      segment_count = reading.segment_count;
      post_count = reading.post_count;
      agents = reading.fit_agents;
      segments = reading.fit_segments;
      posts = subst (λ (o : Option ℕ). All (IsScriptPost (unwrap_or o 0) (length reading.agents.items)) reading.posts.items) c.in-Some-steps.is reading.fit_posts;
      post_order = reading.post_order;
      goals = reading.fit_goals;
      one_goal = reading.one_goal;
      clear = search rules;
    }
