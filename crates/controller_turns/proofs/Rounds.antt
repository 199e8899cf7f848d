-- A turn on the frame that was read.
use Rattle.std.proofs.Common.{◌≡◌, ℕ, ◌+◌, ◌*◌, ◌≤◌, List, [], ◌++◌, length, ap, sym, ◌∙◌, subst, arith, mul-le-mul, Option}
use Rattle.std.proofs.lemmas.List.{append-nil, length-map}
use Rattle.crowd_data.specs.declared.post.Goal.{Goal}
use Rattle.crowd_data.specs.Run.{Snapshot, start_of}
use Rattle.crowd_data.specs.Scenario.{Parts}
use Rattle.post_box.specs.Ends.{PosterState}
use Rattle.published_frames.specs.declared.entry.Step.{Step}
use Rattle.published_frames.specs.History.{StartsWith, last_of}
use Rattle.controller_turns.specs.Turns.{IsNewer, Preference, TurnsTo, frames_of, preference_of, preferences_of, turn}
use Rattle.controller_turns.specs.Controllers.{ControllerState, HasPostedTurns, IsSamePoster, Suits, posts_of_run}
use Rattle.controller_turns.proofs.FrameTurns.{turned_amid, turned_few_before, turned_longer}

-- the whole history begins with itself
begins : (history : List Step) → StartsWith history history
begins history = ([], sym (append-nil history))

-- a history that is read later
pub turned_read : (goals : List Goal) (scenario : Parts) (old seen later : List Step) (poster : PosterState) (last : Option ℕ) → StartsWith seen old → later ≡ seen
    → HasPostedTurns goals scenario old poster last → HasPostedTurns goals scenario later poster last
turned_read goals scenario old seen later poster last w e h =
    subst (λ (x : List Step). HasPostedTurns goals scenario x poster last) (sym e) (turned_longer (turn goals) scenario seen old (preferences_of poster.posts) last w h)

-- a turn on its last frame
pub turn_read : (goals : List Goal) (scenario shown : Parts) (old seen later : List Step) (before after : PosterState) (frame : Snapshot) (last : Option ℕ) (number : ℕ)
    → shown ≡ scenario → StartsWith seen old → later ≡ seen → frame ≡ last_of (start_of shown) seen → number ≡ length seen
    → HasPostedTurns goals scenario old before last → IsNewer last number → preferences_of after.posts ≡ preferences_of before.posts ++ turn goals frame
    → TurnsTo (turn goals) (frames_of scenario later) (preferences_of after.posts) number
turn_read goals scenario shown old seen later before after frame last number es w el ef en h l posted =
    let t : Snapshot → List Preference = turn goals in
    let earlier = turned_longer t scenario seen old (preferences_of before.posts) last w h in
    let here = turned_amid t scenario seen seen (preferences_of before.posts) last (begins seen) earlier (subst (λ (n : ℕ). IsNewer last n) en l) in
    let same : frame ≡ last_of (start_of scenario) seen = ef ∙ ap (λ s. last_of (start_of s) seen) es in
    let list : preferences_of before.posts ++ t (last_of (start_of scenario) seen) ≡ preferences_of after.posts = sym (posted ∙ ap (λ f. preferences_of before.posts ++ t f) same) in
    subst (λ (x : List Step × List Preference × ℕ). TurnsTo t (frames_of scenario x.0) x.1 x.2) (λ i. (sym el i, list i, sym en i)) here

-- there is room for it
pub room_to_turn : (goals : List Goal) (scenario shown : Parts) (old seen : List Step) (poster : PosterState) (last : Option ℕ) (number : ℕ) → shown ≡ scenario → StartsWith seen old → length seen ≤ shown.steps → number ≡ length seen
    → HasPostedTurns goals scenario old poster last → IsNewer last number → length poster.posts + length goals ≤ posts_of_run scenario goals
room_to_turn goals scenario shown old seen poster last number es w few en h l =
    let earlier = turned_longer (turn goals) scenario seen old (preferences_of poster.posts) last w h in
    let before = turned_few_before goals scenario seen (preferences_of poster.posts) last earlier (subst (λ (n : ℕ). IsNewer last n) en l) in
    let count = length-map poster.posts preference_of in
    let steps : length seen ≤ scenario.steps = let e = ap (λ (s : Parts). s.steps) es in omega (arith, e, few) in
    let same : length goals ≤ length goals = omega arith in
    let most : length seen * length goals ≤ scenario.steps * length goals = mul-le-mul steps same in
    let one : (scenario.steps + 1) * length goals ≡ scenario.steps * length goals + length goals = omega arith in
    omega (arith, before, count, most, one)

-- the same controller and the same poster still suit
pub suits_still : (scenario shown : Parts) (controller now : ControllerState) (poster later : PosterState) → shown ≡ scenario → now ≡ controller → IsSamePoster poster later → Suits scenario controller poster → Suits shown now later
suits_still scenario shown controller now poster later es ec ep h =
    let there : Suits scenario controller later = record {
      limits = h.limits;
      number = ap (λ (p : PosterState). p.controller) ep ∙ h.number;
      agents = ap (λ (p : PosterState). p.agents) ep ∙ h.agents;
      room = let e = ap (λ (p : PosterState). p.most) ep in omega (arith, e, h.room);
    } in
    subst (λ (x : Parts × ControllerState). Suits x.0 x.1 later) (λ i. (sym es i, sym ec i)) there
