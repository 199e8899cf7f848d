use Rattle.std.proofs.Common.{◌∙◌, List, length, ap, subst, sym}
use Rattle.std.specs.List.{All}
use Rattle.crowd_data.specs.declared.post.Post.{Post}
use Rattle.crowd_data.specs.declared.post.ScriptPost.{ScriptPost}
use Rattle.crowd_data.specs.Limits.{IsPost, IsScriptPost}
use Rattle.crowd_data.specs.Scenario.{Parts}
use Rattle.crowd_data.proofs.ScriptedPosts.{scripted_sound}
use Rattle.run_text.proofs.script.list_script.Goals as goal

pub returns-clause-sound : goal.returns-clause-sound
returns-clause-sound c =
    let agents = length c.args.stepper.now.scenario.agents in
    let posts = c.posts-posts.ensures.value ∙ ap (λ (s : Parts). s.posts) c.scenario.ensures.value in
    let sound = subst (λ (list : List ScriptPost). All (IsScriptPost c.args.stepper.now.scenario.steps agents) list) (sym posts) c.scenario.ensures.valid.posts in
    subst (λ (list : List Post). All (IsPost agents) list) (sym (rw (c.clear.ensures.items) at c.push_script.ensures.posts))
    (scripted_sound c.args.stepper.now.scenario.steps agents c.posts-posts.result.now 0 _ sound)
