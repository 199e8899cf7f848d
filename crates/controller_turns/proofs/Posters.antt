-- What a poster has after it posted preferences.
use Rattle.std.proofs.Common.{◌≡◌, ℕ, ◌*◌, ◌+◌, ◌<◌, ◌≤◌, ◌==◌, not, List, [], ◌∷◌, ◌++◌, drop, take, slice_index_or, length, length-take, refl, ap, sym, ◌∙◌, subst, arith, append_assoc, length-append, mul-le-mul}
use Rattle.std.specs.List.{All}
use Rattle.std.proofs.lemmas.List.{append-nil, length-map, map-append, take-append-drop, take_more}
use Rattle.std.proofs.lemmas.List.Elements.{All-filter}
use Rattle.std.proofs.lemmas.List.Filters.{length-filter_both}
use Rattle.crowd_data.specs.declared.frame.Body.{Body}
use Rattle.crowd_data.specs.declared.post.Goal.{Goal}
use Rattle.crowd_data.specs.Limits.{IsGoal}
use Rattle.crowd_data.specs.Present.{IsBody, IsPresent}
use Rattle.crowd_data.specs.Run.{Snapshot}
use Rattle.crowd_data.specs.Scenario.{Parts}
use Rattle.crowd_data.specs.declared.limits.TheConstants.{MOST_STEPS}
use Rattle.post_box.specs.Ends.{PosterState, after_posting, next_post}
use Rattle.published_frames.specs.History.{AreInRange, IsReadable}
use Rattle.controller_turns.specs.Turns.{Preference, goals_of, preference_for, preference_of, preferences_of, turn}
use Rattle.controller_turns.specs.Controllers.{CanTurn, HasPostedSome, IsSamePoster, after_preferences, posts_of_run}
use Rattle.controller_turns.proofs.FrameTurns.{length-turn}

-- ---- the same poster

pub same_poster-trans : (a b c : PosterState) → IsSamePoster a b → IsSamePoster b c → IsSamePoster a c
same_poster-trans a b c e f = f ∙ ap (λ (p : PosterState). record p { posts = c.posts }) e

-- it stays the same
pub same-after_preferences : (poster : PosterState) (list : List Preference) → IsSamePoster poster (after_preferences poster list)
same-after_preferences poster [] = refl
same-after_preferences poster (p ∷ rest) = same-after_preferences (after_posting poster (next_post poster p.agent p.vel)) rest

-- ---- some preferences, and then others

pub after_preferences-append : (poster : PosterState) (xs ys : List Preference) → after_preferences poster (xs ++ ys) ≡ after_preferences (after_preferences poster xs) ys
after_preferences-append poster [] ys = refl
after_preferences-append poster (p ∷ rest) ys = after_preferences-append (after_posting poster (next_post poster p.agent p.vel)) rest ys

-- the preferences that were posted are those before, and these
pub preferences-after_preferences : (poster : PosterState) (list : List Preference) → preferences_of (after_preferences poster list).posts ≡ preferences_of poster.posts ++ list
preferences-after_preferences poster [] = sym (append-nil (preferences_of poster.posts))
preferences-after_preferences poster (p ∷ rest) =
    let next = next_post poster p.agent p.vel in
    preferences-after_preferences (after_posting poster next) rest ∙ (ap (λ l. l ++ rest) (map-append preference_of poster.posts (next ∷ [])) ∙ append_assoc (preferences_of poster.posts) (p ∷ []) rest)

pub length-after_preferences : (poster : PosterState) (list : List Preference) → length (after_preferences poster list).posts ≡ length poster.posts + length list
length-after_preferences poster list =
    let e = ap length (preferences-after_preferences poster list) in
    let a = length-map (after_preferences poster list).posts preference_of in
    let b = length-map poster.posts preference_of in
    let d = length-append (preferences_of poster.posts) list in
    omega (arith, e, a, b, d)

-- ---- a turn

-- what a poster has after a whole turn
pub turn_posted : (old new : PosterState) (goals : List Goal) (frame : Snapshot) → new ≡ after_preferences old (turn goals frame)
    → IsSamePoster old new × (preferences_of new.posts ≡ preferences_of old.posts ++ turn goals frame) × (length new.posts ≡ length old.posts + length goals)
turn_posted old new goals frame e =
    let same : IsSamePoster old new = subst (IsSamePoster old) (sym e) (same-after_preferences old (turn goals frame)) in
    let list : preferences_of new.posts ≡ preferences_of old.posts ++ turn goals frame = ap (λ (p : PosterState). preferences_of p.posts) e ∙ preferences-after_preferences old (turn goals frame) in
    let count : length new.posts ≡ length old.posts + length goals =
    let a = ap (λ (p : PosterState). length p.posts) e in
    let b = length-after_preferences old (turn goals frame) in
    let d = length-turn goals frame in
    omega (arith, a, b, d) in
    (same, list, count)

-- and after one that was cut short
pub some_posted : (old new : PosterState) (list : List Preference) → HasPostedSome old list new → IsSamePoster old new
some_posted old new list h = subst (IsSamePoster old) (sym h.3) (same-after_preferences old h.0)

-- ---- frames on which a controller can turn

pub readable_can_turn : (scenario : Parts) (goals : List Goal) (frame : Snapshot) → IsReadable scenario frame → All (IsGoal (length scenario.agents)) goals → CanTurn goals frame
readable_can_turn scenario goals frame readable limits = record {
  numbered = readable.numbered;
  in_range = readable.in_range;
  limits = subst (λ (n : ℕ). All (IsGoal n) goals) (sym readable.full) limits;
}

in_range_later : (number : ℕ) (bodies : List Body) → number ≤ MOST_STEPS → All (IsBody number) bodies → AreInRange bodies
in_range_later number bodies few all = λ place other h. let body = all place other h in (omega (arith, few, body.pos.0), omega (arith, few, body.pos.1))

pub present_can_turn : (scenario : Parts) (goals : List Goal) (frame : Snapshot) → scenario.steps ≤ MOST_STEPS → IsPresent scenario frame → All (IsGoal (length scenario.agents)) goals → CanTurn goals frame
present_can_turn scenario goals frame few present limits = record {
  numbered = present.numbered;
  in_range = in_range_later frame.number frame.bodies (let n = present.number in omega (arith, few, n)) present.bodies;
  limits = subst (λ (n : ℕ). All (IsGoal n) goals) (sym present.full) limits;
}

-- ---- the goals of a controller

-- they are within their limits
pub limits-goals_of : (controller agents : ℕ) (goals : List Goal) → All (IsGoal agents) goals → All (IsGoal agents) (goals_of controller goals)
limits-goals_of controller agents goals all = All-filter (λ (goal : Goal). goal.controller == controller) (IsGoal agents) goals all

-- and no more than all
pub few-goals_of : (controller : ℕ) (goals : List Goal) → length (goals_of controller goals) ≤ length goals
few-goals_of controller goals = let e = length-filter_both (λ (goal : Goal). goal.controller == controller) (λ (goal : Goal). not (goal.controller == controller)) (λ goal. refl) goals in omega (arith, e)

-- ---- room for posts

-- room for a turn on every frame and as many more, and one, is room for a turn on every frame
pub room_for_run : (scenario : Parts) (goals mine : List Goal) (most : ℕ) → (2 * scenario.steps + 3) * length goals ≤ most → length mine ≤ length goals → posts_of_run scenario mine ≤ most
room_for_run scenario goals mine most h l =
    let a : (scenario.steps + 1) * length mine ≤ (2 * scenario.steps + 3) * length goals = mul-le-mul (omega arith) l in
    omega (arith, a, h)

-- and for one more turn after turns on every frame, and on so many frames since
pub room_for_turn : (scenario : Parts) (goals mine : List Goal) (most since posted : ℕ) → (2 * scenario.steps + 3) * length goals ≤ most → length mine ≤ length goals → since ≤ scenario.steps + 1
    → posted ≤ (scenario.steps + 1 + since) * length mine → posted + length mine ≤ most
room_for_turn scenario goals mine most since posted h l s p =
    let a : (scenario.steps + 1 + since + 1) * length mine ≤ (2 * scenario.steps + 3) * length goals = mul-le-mul (omega arith) l in
    let b : (scenario.steps + 1 + since + 1) * length mine ≡ (scenario.steps + 1 + since) * length mine + length mine = omega arith in
    omega (arith, a, b, h, p)

-- ---- one goal more of a turn

turn_more : (goals : List Goal) (place : ℕ) (none : Goal) (frame : Snapshot) → place < length goals → turn (take (place + 1) goals) frame ≡ turn (take place goals) frame ++ preference_for frame (slice_index_or goals place none) ∷ []
turn_more goals place none frame h = ap (λ l. turn l frame) (take_more goals place none h) ∙ map-append (preference_for frame) (take place goals) (slice_index_or goals place none ∷ [])

pub posted_more : (old now new : PosterState) (goals : List Goal) (place : ℕ) (none : Goal) (frame : Snapshot) → now ≡ after_preferences old (turn (take place goals) frame) → place < length goals
    → new ≡ after_preferences now (preference_for frame (slice_index_or goals place none) ∷ []) → new ≡ after_preferences old (turn (take (place + 1) goals) frame)
posted_more old now new goals place none frame e h f =
    let more = preference_for frame (slice_index_or goals place none) ∷ [] in
    f ∙ (ap (λ p. after_preferences p more) e ∙ (sym (after_preferences-append old (turn (take place goals) frame) more) ∙ ap (after_preferences old) (sym (turn_more goals place none frame h))))

-- what a poster has in the midst of a turn
pub posted_amid : (old now : PosterState) (goals : List Goal) (place : ℕ) (frame : Snapshot) → now ≡ after_preferences old (turn (take place goals) frame) → place ≤ length goals
    → IsSamePoster old now × (length now.posts ≡ length old.posts + place) × HasPostedSome old (turn goals frame) now
posted_amid old now goals place frame e h =
    let some = turn_posted old now (take place goals) frame e in
    let count = length-take place goals in
    let parts : turn goals frame ≡ turn (take place goals) frame ++ turn (drop place goals) frame = ap (λ l. turn l frame) (sym (take-append-drop place goals)) ∙ map-append (preference_for frame) (take place goals) (drop place goals) in
    (some.0, omega (arith, some.2, count, h), (turn (take place goals) frame, turn (drop place goals) frame, parts, e))
