use Rattle.std.proofs.Common.{◌∙◌, ◌+◌, ◌-◌, ◌*◌, ◌/◌, ◌++◌, List, ap, arith}
use Rattle.crowd_data.specs.declared.post.ScriptPost.{ScriptPost}
use Rattle.scenario_read.specs.Generator.{generated_posts}
use Rattle.scenario_read.proofs.GeneratedSteps.{posts_all, posts_more}
use Rattle.scenario_read.proofs.generator.generate_posts.Goals as goal

pub loop-place-preserved : goal.loop-place-preserved
loop-place-preserved c =
    let i = c.loop-place.invariant in
    record {
      posts =
          ap (λ (xs : List ScriptPost). xs ++ generated_posts c.args.agents (10 * (c.loop-place.place + 1) + 10) (c.args.steps / 10 - (c.loop-place.place + 1)) c.generate_post.new.draws.state) c.push.ensures.items
          ∙ posts_more c.args.agents c.loop-place.posts.items _ c.loop-place.place (c.args.steps / 10) c.loop-place.draws.state c.generate_post.new.draws.state c.generate_post.result c.loop-place-test.true
          c.generate_post.ensures.post c.generate_post.ensures.state i.posts;
      room = omega (arith, i.room, c.push.ensures.spare);
    }

pub returns : goal.returns
returns c =
    posts_all c.args.agents c.loop-place.posts.items _ c.loop-place.place _ (c.args.steps / 10) c.loop-place.draws.state (omega (arith, c.loop-place-test.false)) c.loop-place.invariant.posts
