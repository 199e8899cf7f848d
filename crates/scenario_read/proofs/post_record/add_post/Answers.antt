use Rattle.std.proofs.Common.{◌≡◌, ◌∙◌, ◌++◌, ◌∷◌, [], ℕ, List, length, sym, ap, subst, true, arith, ◌≤◌}
use Rattle.std.specs.Prelude.{unwrap_or}
use Rattle.std.specs.List.{All, AllPairs}
use Rattle.std.specs.declared.option.Option.{Option}
use Rattle.std.proofs.lemmas.List.Elements.{All-push}
use Rattle.crowd_data.specs.declared.agent.Agent.{Agent}
use Rattle.crowd_data.specs.declared.post.ScriptPost.{ScriptPost}
use Rattle.crowd_data.specs.Limits.{IsScriptPost}
use Rattle.scenario_read.specs.PostRecord.{keeps_order, last_post}
use Rattle.scenario_read.proofs.PostOrder.{order_more}
use Rattle.scenario_read.proofs.post_record.add_post.Goals as goal

pub invariant_of-reading-2-clause-post_order : goal.invariant_of-reading-2-clause-post_order
invariant_of-reading-2-clause-post_order c =
    let posts = c.args.reading.now.posts.items in
    let pushed : c.push.new.self.items ≡ posts ++ c.in_ok-post.post ∷ [] = c.push.ensures.items ∙ ap (λ (ps : List ScriptPost). ps ++ c.in_ok-post.post ∷ []) c.reserve.ensures.items in
    let kept : keeps_order (last_post posts) c.in_ok-post.post.frame ≡ true =
    ap (λ (ps : List ScriptPost). keeps_order (last_post ps) c.in_ok-post.post.frame) (sym c.items-3.ensures) ∙ sym c.keeps_order.ensures ∙ c.if-not-keeps_order.false in
    subst (AllPairs (λ (p : ScriptPost) (q : ScriptPost). p.frame ≤ q.frame)) (sym pushed) (order_more posts c.in_ok-post.post c.args.reading.now.post_order kept)

pub invariant_of-reading-2-clause-fit_posts : goal.invariant_of-reading-2-clause-fit_posts
invariant_of-reading-2-clause-fit_posts c =
    let posts = c.args.reading.now.posts.items in
    let agents = length c.args.reading.now.agents.items in
    let pushed : c.push.new.self.items ≡ posts ++ c.in_ok-post.post ∷ [] = c.push.ensures.items ∙ ap (λ (ps : List ScriptPost). ps ++ c.in_ok-post.post ∷ []) c.reserve.ensures.items in
    let fit : IsScriptPost c.in-Some.steps agents c.in_ok-post.post = record {
      some_frame = c.in_ok-post.ensures.frame;
      frame = omega (arith, c.if-post-steps.false);
      agent = omega (arith, c.if-post-items.false, ap (λ (xs : List Agent). length xs) c.items-2.ensures);
      vel = c.in_ok-post.ensures.vel;
    } in
    let fits = subst (λ (o : Option ℕ). IsScriptPost (unwrap_or o 0) agents c.in_ok-post.post) (sym c.in-Some.is) fit in
    let steps = unwrap_or c.args.reading.now.steps 0 in
    subst (All (IsScriptPost steps agents)) (sym pushed) (All-push (IsScriptPost steps agents) posts c.in_ok-post.post c.args.reading.now.fit_posts fits)
