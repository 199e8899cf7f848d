use Rattle.std.proofs.Common.{◌≡◌, ◌≤◌, ◌+◌, ◌-◌, ◌*◌, ◌++◌}
use Rattle.scenario_read.specs.Generator.{generated_posts}
use Rattle.scenario_read.proofs.generator.generate_posts.Given as goal

-- the posts so far, ahead of those that are left
abbrev pub invariant-loop-place : goal.invariant-loop-place
invariant-loop-place l = record {
  posts : l.posts.items ++ generated_posts l.agents (10 * l.place + 10) (l.count - l.place) l.draws.state ≡ generated_posts l.agents 10 l.count l.fn.draws.state;
  room : l.count ≤ l.place + l.posts.spare;
}
