-- Each kind of step keeps the rule of posts.
use Rattle.std.proofs.Common.{◌≡◌, ◌≢◌, ℕ, zero, suc, ◌+◌, ◌<◌, ◌≤◌, eqb, true, false, List, [], ◌∷◌, ◌++◌, length, set, sym, refl, ap, ◌∙◌, subst, inl, inr, ◌⊎◌, ⊎_elim, append_assoc, arith, if◌then◌else◌, ne_eqb, eq-eqb}
use Rattle.std.specs.Prelude.{All, Option, Some, None}
use Rattle.std.proofs.lemmas.List.Elements.{All-nil, All-push, All-weaker}
use mathlib.Core.Option.{some, some-injective, some-ne-none}
use mathlib.Core.Logic.{dite}
use native.Mathlib.Decide.{ℕ_discrete}
use lib.ListN.{get_elem?}
use Rattle.crossbeam_queue.specs.Fifo.{Pushes, Pops, Forks, Merges, Learns}
use Rattle.crossbeam_queue.proofs.Lists.{at_set}
use Rattle.crowd_data.specs.declared.post.Post.{Post}
use Rattle.crowd_data.specs.Limits.{IsPost}
use Rattle.post_box.specs.declared.view.ControllerPosts.{ControllerPosts}
use Rattle.post_box.specs.declared.view.Known.{Known}
use Rattle.post_box.specs.declared.view.Role.TheVariants.{Poster, Taker, Spent}
use Rattle.post_box.specs.History.{IsBoxPost, IsHistory, IsWaiting, posts_by}
use Rattle.post_box.specs.Views.{poster_view, spent_view, taker_view, with_final}
use Rattle.post_box.specs.Rule.{Fits, FitsPoster, FitsTaker, IsFinal, IsKept, QueueState}
use Rattle.post_box.proofs.Histories.{IsHistory-push, IsHistory-wider, next_valid, other_more, own_more, posts_by-none}

-- a view that joined the others is the last one
at_snoc : (views : List Known) (new v : Known) (pass : ℕ) → get_elem? (views ++ new ∷ []) pass ≡ some v → (get_elem? views pass ≡ some v) ⊎ ((pass ≡ length views) × (new ≡ v))
at_snoc [] new v zero at = inr (refl, some-injective new v at)
at_snoc [] new v (suc pass) at = absurd (some-ne-none v (sym at))
at_snoc (x ∷ views) new v zero at = inl at
at_snoc (x ∷ views) new v (suc pass) at = ⊎_elim (λ t. inl t) (λ t. inr (ap suc t.0, t.1)) (at_snoc views new v pass at)

-- what holds of each pass but one, and of that one's new view
each_set : (F : ℕ → Known → Type 0) (views : List Known) (pass : ℕ) (w : Known) → F pass w → ((j : ℕ) (u : Known) → j ≢ pass → get_elem? views j ≡ some u → F j u)
    → (j : ℕ) (u : Known) → get_elem? (set views pass w) j ≡ some u → F j u
each_set F views pass w mine others j u at =
    ⊎_elim (λ (t : (j ≡ pass) × (w ≡ u)). subst (λ (y : ℕ × Known). F y.0 y.1) (λ i. (sym t.0 i, t.1 i)) mine)
    (λ (t : (j ≢ pass) × (get_elem? views j ≡ some u)). others j u t.0 t.1) (at_set views pass j w u at)

-- what holds of each pass, and of one that joined them
each_snoc : (F : ℕ → Known → Type 0) (views : List Known) (new : Known) → ((j : ℕ) (u : Known) → get_elem? views j ≡ some u → F j u) → F (length views) new
    → (j : ℕ) (u : Known) → get_elem? (views ++ new ∷ []) j ≡ some u → F j u
each_snoc F views new old last j u at =
    ⊎_elim (old j u) (λ (t : (j ≡ length views) × (new ≡ u)). subst (λ (y : ℕ × Known). F y.0 y.1) (λ i. (sym t.0 i, t.1 i)) last) (at_snoc views new u j at)

poster-ne-taker : Poster ≢ Taker
poster-ne-taker e = cc

spent-ne-poster : Spent ≢ Poster
spent-ne-poster e = cc

spent-ne-taker : Spent ≢ Taker
spent-ne-taker e = cc

fits_spent : (now : QueueState) (pass : ℕ) → Fits now pass spent_view
fits_spent now pass = record { taker = λ e. absurd (spent-ne-taker e); poster = λ e. absurd (spent-ne-poster e) }

fits_taker : (now : QueueState) (pass : ℕ) (v : Known) → v.role ≡ Taker → FitsTaker now pass v → Fits now pass v
fits_taker now pass v role fits = record { taker = λ _. fits; poster = λ e. absurd (poster-ne-taker (sym e ∙ role)) }

fits_poster : (now : QueueState) (pass : ℕ) (v : Known) → v.role ≡ Poster → FitsPoster now pass v → Fits now pass v
fits_poster now pass v role fits = record { taker = λ e. absurd (poster-ne-taker (sym role ∙ e)); poster = λ _. fits }

-- a pass beside the taker's is not the taker's; it is a poster's or spent
fits_beside : (now after : QueueState) (pass j : ℕ) (u : Known) → Fits now j u → pass ≡ now.taker → j ≢ pass → (FitsPoster now j u → FitsPoster after j u) → Fits after j u
fits_beside now after pass j u fits mine apart poster = record { taker = λ e. absurd (apart ((fits.taker e).only ∙ sym mine)); poster = λ e. poster (fits.poster e) }

-- two controllers whose posters have different passes are different
apart_by_seats : (now : QueueState) (a b : ℕ) (s : Option ℕ) (p : ℕ) → now.seats a ≡ s → now.seats b ≡ Some p → s ≢ Some p → a ≢ b
apart_by_seats now a b s p at there ne e = ne (sym at ∙ (ap now.seats e ∙ there))

none-ne-some : (p : ℕ) → None ≢ Some p
none-ne-some p e = cc

some-ne-some : (j p : ℕ) → j ≢ p → Some j ≢ Some p
some-ne-some j p ne e = ne (cc)

-- the first pass is the taker's
pub begins : IsKept [] (taker_view 0 0 ∷ [])
begins =
    let now : QueueState = record { history = []; taken = []; taker = 0; seats = λ _. None; controllers = 0; agents = 0 } in
    record {
      now = now;
      whole = refl;
      legal = record { each = All-nil (IsBoxPost 0 0); seqs = λ controller. refl };
      each = each_snoc (Fits now) [] (taker_view 0 0) (λ j u at. absurd (some-ne-none u (sym at)))
          (fits_taker now 0 (taker_view 0 0) refl record { only = refl; posts = refl; controllers = refl; agents = refl; final_posts = All-nil (IsFinal now) });
    }

-- the taker's pass, which has made no poster, learns of more agents
pub learns_agents : (pass : ℕ) (v : Known) (more : ℕ) → v.role ≡ Taker → v.controllers ≡ 0 → v.final_posts ≡ [] → v.agents ≤ more → Forks IsKept pass v (record v { agents = more }) spent_view
learns_agents pass v more role none no_final le items views k at =
    let w : Known = record v { agents = more } in
    let mine = (k.each pass v at).taker role in
    let after : QueueState = record k.now { agents = more } in
    record {
      now = after;
      whole = k.whole;
      legal = IsHistory-wider k.now.controllers k.now.agents k.now.controllers more k.now.history (omega arith) (let l = mine.agents in omega arith) k.legal;
      each = each_snoc (Fits after) (set views pass w) spent_view
          (each_set (Fits after) views pass w
          (fits_taker after pass w role
          record { only = mine.only; posts = mine.posts; controllers = mine.controllers; agents = refl; final_posts = subst (All (IsFinal after)) (sym no_final) (All-nil (IsFinal after)) })
          (λ j u apart old. fits_beside k.now after pass j u (k.each j u old) mine.only apart (λ fits. let l = fits.controller in let z = mine.controllers in absurd (omega arith))))
          (fits_spent after (length (set views pass w)));
    }

-- the taker's pass makes the next controller's poster
pub makes : (pass : ℕ) (v : Known) → v.role ≡ Taker → Forks IsKept pass v (record v { controllers = v.controllers + 1 }) (poster_view v.controllers v.agents)
makes pass v role items views k at =
    let w : Known = record v { controllers = v.controllers + 1 } in
    let new : Known = poster_view v.controllers v.agents in
    let mine = (k.each pass v at).taker role in
    let next = k.now.controllers in
    let place = length (set views pass w) in
    let seats : ℕ → Option ℕ = λ c. (if eqb c next then Some place else k.now.seats c) in
    let after : QueueState = record k.now { seats = seats; controllers = next + 1 } in
    let same : (c : ℕ) → c < next → seats c ≡ k.now.seats c = λ c below. (let apart : eqb c next ≡ false = ne_eqb c next (λ e. omega arith) in rw apart refl) in
    record {
      now = after;
      whole = k.whole;
      legal = IsHistory-wider next k.now.agents (next + 1) k.now.agents k.now.history (omega arith) (omega arith) k.legal;
      each = each_snoc (Fits after) (set views pass w) new
          (each_set (Fits after) views pass w
          (fits_taker after pass w role record {
            only = mine.only;
            posts = mine.posts;
            controllers = ap (λ (n : ℕ). n + 1) mine.controllers;
            agents = mine.agents;
            final_posts = All-weaker (IsFinal k.now) (IsFinal after)
                (λ by is. record { controller = (let l = is.controller in omega arith); gone = same by.controller is.controller ∙ is.gone; posts = is.posts }) v.final_posts mine.final_posts;
          })
          (λ j u apart old. fits_beside k.now after pass j u (k.each j u old) mine.only apart
          (λ fits. record { only = same u.controller fits.controller ∙ fits.only; controller = (let l = fits.controller in omega arith); posts = fits.posts; agents = fits.agents })))
          (fits_poster after place new refl record {
            only = (let here : eqb v.controllers next ≡ true = eq-eqb v.controllers next mine.controllers in rw here refl);
            controller = (let e = mine.controllers in omega arith);
            posts = sym (posts_by-none next k.now.agents v.controllers k.now.history (let e = mine.controllers in omega arith) k.legal.each);
            agents = mine.agents;
          });
    }

-- a poster's push
pub sends : (n pass : ℕ) (v : Known) (post : Post) → v.role ≡ Poster → post.controller ≡ v.controller → post.seq ≡ length v.posts → IsPost v.agents post
    → Pushes IsKept n pass v post (λ w. w ≡ record v { posts = v.posts ++ post ∷ [] })
sends n pass v post role own next valid items views _ k at =
    let w : Known = record v { posts = v.posts ++ post ∷ [] } in
    let mine = (k.each pass v at).poster role in
    let before = k.now.history in
    let history : List Post = before ++ post ∷ [] in
    let after : QueueState = record k.now { history = history } in
    let others : (c : ℕ) → c ≢ v.controller → posts_by c history ≡ posts_by c before = λ c apart. other_more c before post (λ e. apart (sym e ∙ own)) in
    let place : post.seq ≡ length (posts_by post.controller before) = next ∙ (ap length mine.posts ∙ ap (λ (c : ℕ). length (posts_by c before)) (sym own)) in
    let fine : IsBoxPost k.now.controllers k.now.agents post = record { controller = (let l = mine.controller in omega arith); valid = subst (λ (a : ℕ). IsPost a post) mine.agents valid } in (
      w,
      record {
        now = after;
        whole = ap (λ l. l ++ post ∷ []) k.whole ∙ append_assoc k.now.taken items (post ∷ []);
        legal = IsHistory-push k.now.controllers k.now.agents before post k.legal fine place;
        each = each_set (Fits after) views pass w
            (fits_poster after pass w role
            record { only = mine.only; controller = mine.controller; posts = ap (λ l. l ++ post ∷ []) mine.posts ∙ sym (own_more v.controller before post own); agents = mine.agents })
            (λ j u apart old.
            let fits = k.each j u old in
            record {
              taker = λ e.
                  let taker = fits.taker e in
                  record {
                    only = taker.only;
                    posts = taker.posts;
                    controllers = taker.controllers;
                    agents = taker.agents;
                    final_posts = All-weaker (IsFinal k.now) (IsFinal after)
                        (λ by is. record {
                          controller = is.controller;
                          gone = is.gone;
                          posts = others by.controller (apart_by_seats k.now by.controller v.controller None pass is.gone mine.only (none-ne-some pass)) ∙ is.posts;
                        }) u.final_posts taker.final_posts;
                  };
              poster = λ e.
                  let poster = fits.poster e in
                  let away : u.controller ≢ v.controller = apart_by_seats k.now u.controller v.controller (Some j) pass poster.only mine.only (some-ne-some j pass apart) in
                  record { only = poster.only; controller = poster.controller; posts = poster.posts ∙ sym (others u.controller away); agents = poster.agents };
            });
      },
      refl,
    )

-- the taker's pop
pub takes : (pass : ℕ) (v : Known) → v.role ≡ Taker → Pops IsKept pass v (λ post w. (w ≡ record v { posts = v.posts ++ post ∷ [] }) × IsBoxPost v.controllers v.agents post)
takes pass v role post items views k at =
    let w : Known = record v { posts = v.posts ++ post ∷ [] } in
    let mine = (k.each pass v at).taker role in
    let taken : List Post = k.now.taken ++ post ∷ [] in
    let after : QueueState = record k.now { taken = taken } in
    let fine : IsBoxPost k.now.controllers k.now.agents post = next_valid k.now.controllers k.now.agents k.now.history k.now.taken items post k.legal.each k.whole in (
      w,
      record {
        now = after;
        whole = k.whole ∙ sym (append_assoc k.now.taken (post ∷ []) items);
        legal = k.legal;
        each = each_set (Fits after) views pass w
            (fits_taker after pass w role record {
              only = mine.only;
              posts = ap (λ l. l ++ post ∷ []) mine.posts;
              controllers = mine.controllers;
              agents = mine.agents;
              final_posts = All-weaker (IsFinal k.now) (IsFinal after) (λ by is. record { controller = is.controller; gone = is.gone; posts = is.posts }) v.final_posts mine.final_posts;
            })
            (λ j u apart old. fits_beside k.now after pass j u (k.each j u old) mine.only apart
            (λ fits. record { only = fits.only; controller = fits.controller; posts = fits.posts; agents = fits.agents }));
      },
      (refl, subst (λ (y : ℕ × ℕ). IsBoxPost y.0 y.1 post) (λ i. (sym mine.controllers i, sym mine.agents i)) fine),
    )

-- the taker's pass takes a poster back
pub takes_back : (pass : ℕ) (v : Known) (other : ℕ) (u : Known) → v.role ≡ Taker → u.role ≡ Poster → Merges IsKept pass v other u (with_final v u) spent_view
takes_back pass v other u role posts items views k at ne there =
    let w : Known = with_final v u in
    let was : get_elem? views other ≡ some u = ⊎_elim (λ (t : (other ≡ pass) × (w ≡ u)). absurd (ne t.0)) (λ (t : (other ≢ pass) × (get_elem? views other ≡ some u)). t.1) (at_set views pass other w u there) in
    let mine = (k.each pass v at).taker role in
    let theirs = (k.each other u was).poster posts in
    let seats : ℕ → Option ℕ = λ c. (if eqb c u.controller then None else k.now.seats c) in
    let after : QueueState = record k.now { seats = seats } in
    let gone : seats u.controller ≡ None = (let here : eqb u.controller u.controller ≡ true = eq-eqb u.controller u.controller refl in rw here refl) in
    let same : (c : ℕ) → c ≢ u.controller → seats c ≡ k.now.seats c = λ c away. (let apart : eqb c u.controller ≡ false = ne_eqb c u.controller away in rw apart refl) in
    let stay : (c : ℕ) → k.now.seats c ≡ None → seats c ≡ None = λ c none. dite (ℕ_discrete c u.controller) (λ e. ap seats e ∙ gone) (λ away. same c away ∙ none) in
    let last : ControllerPosts = record { controller = u.controller; posts = u.posts } in
    let now : (j : ℕ) (y : Known) → get_elem? (set views pass w) j ≡ some y → j ≢ other → Fits after j y = each_set (λ j y. j ≢ other → Fits after j y) views pass w
    (λ _. fits_taker after pass w role record {
      only = mine.only;
      posts = mine.posts;
      controllers = mine.controllers;
      agents = mine.agents;
      final_posts = All-push (IsFinal after) v.final_posts last
          (All-weaker (IsFinal k.now) (IsFinal after) (λ by is. record { controller = is.controller; gone = stay by.controller is.gone; posts = is.posts }) v.final_posts mine.final_posts)
          record { controller = theirs.controller; gone = gone; posts = sym theirs.posts };
    })
    (λ j y apart old away. fits_beside k.now after pass j y (k.each j y old) mine.only apart
    (λ fits.
    let one : y.controller ≢ u.controller = apart_by_seats k.now y.controller u.controller (Some j) other fits.only theirs.only (some-ne-some j other away) in
    record { only = same y.controller one ∙ fits.only; controller = fits.controller; posts = fits.posts; agents = fits.agents })) in
    record {
      now = after;
      whole = k.whole;
      legal = k.legal;
      each = each_set (Fits after) (set views pass w) other spent_view (fits_spent after other) (λ j y away e. now j y e away);
    }

-- what the taker learns of what waits
pub learns : (pass : ℕ) (v : Known) → v.role ≡ Taker → Learns IsKept pass v (IsWaiting v.controllers v.agents v.posts v.final_posts)
learns pass v role items views k at =
    let mine = (k.each pass v at).taker role in
    let whole : k.now.history ≡ v.posts ++ items = k.whole ∙ ap (λ l. l ++ items) (sym mine.posts) in
    record {
      history = subst (λ (y : ℕ × ℕ × List Post). IsHistory y.0 y.1 y.2) (λ i. (sym mine.controllers i, sym mine.agents i, whole i)) k.legal;
      final_posts = All-weaker (IsFinal k.now) (λ (by : ControllerPosts). posts_by by.controller (v.posts ++ items) ≡ by.posts)
          (λ by is. ap (posts_by by.controller) (sym whole) ∙ is.posts) v.final_posts mine.final_posts;
    }
