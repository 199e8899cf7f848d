-- What is known of a controller as the run goes on.
use Rattle.std.proofs.Common.{◌≡◌, ◌∙◌, ◌+◌, ◌*◌, ◌<◌, ◌≤◌, ℕ, List, [], ◌∷◌, ◌++◌, length, slice_index_or, refl, ap, sym, subst, arith, mul-le-mul, Option, Some, None, Result, Ok, MatchOption, Bool, true, false, true≢false, MatchBool}
use Rattle.std.specs.Prelude.{IfOk, IfSome}
use Rattle.std.proofs.lemmas.List.FromFn.{get_or-map-range_with_len, length-map-range_with_len}
use Rattle.logbook.specs.Pages.{Book}
use Rattle.fixed_vec.specs.declared.list.NoMemory.{NoMemory}
use Rattle.crowd_data.specs.declared.post.Goal.{Goal}
use Rattle.crowd_data.specs.Present.{IsPresent}
use Rattle.crowd_data.specs.Run.{Snapshot, start_of}
use Rattle.crowd_data.specs.Scenario.{IsValid, Parts, controllers_of}
use Rattle.frame_step.specs.Present.{Course}
use Rattle.post_box.specs.Ends.{BoxState, PosterState}
use Rattle.published_frames.specs.declared.entry.Step.{Step}
use Rattle.published_frames.specs.declared.reader.FrameReader.{FrameReader}
use Rattle.published_frames.specs.declared.writer.FrameWriter.{FrameWriter}
use Rattle.published_frames.specs.History.{StartsWith, last_of}
use Rattle.published_frames.proofs.Accounts.{starts_trans}
use Rattle.published_frames.specs.Names.{reader_seen, reader_source, writer_history, writer_source}
use Rattle.controller_turns.specs.Controllers.{CanTurn, ControllerState, Ends, HasPostedTurns, IsSamePoster, Suits, after_preferences}
use Rattle.controller_turns.specs.Turns.{Preference, TurnsTo, frames_of, goals_of, preferences_of, turn}
use Rattle.controller_turns.proofs.FrameTurns.{turned_amid, turned_longer}
use Rattle.controller_turns.proofs.Posters.{few-goals_of, limits-goals_of, present_can_turn, room_for_run, room_for_turn, same_poster-trans, turn_posted}
use Rattle.live_session.specs.declared.steered.Steered.{Steered}
use Rattle.live_session.specs.declared.steered.Steering.{Steering}
use Rattle.live_session.specs.declared.steered.Steering.TheVariants.{OnThread, Here}
use Rattle.live_session.specs.Running.{IsPublished}
use Rattle.live_session.specs.Steering.{AreSteering, IsLate, IsSteered, IsSteering, Stands, controller_of, first_posters, most_posts, poster_of}
use Rattle.live_session.proofs.Rows.{at_next, next_below}

-- the first case, where a test was true
pub by_true : (P Q : Type 0) (b : Bool) → MatchBool b P Q → b ≡ true → P
by_true P Q true m e = m
by_true P Q false m e = absurd (true≢false (sym e))

-- ---- its poster

-- it may post for a turn on each frame
pub suits : (box : BoxState) (scenario : Parts) (number : ℕ) (controller : ControllerState) (poster : PosterState) → IsValid scenario → controller ≡ controller_of scenario number → poster ≡ poster_of box scenario number
    → Suits scenario controller poster
suits box scenario number controller poster valid c p =
    let here : Suits scenario (controller_of scenario number) (poster_of box scenario number) = record {
      limits = limits-goals_of number (length scenario.agents) scenario.goals valid.goals;
      number = refl;
      agents = refl;
      room = room_for_run scenario scenario.goals (goals_of number scenario.goals) (most_posts scenario) (omega arith) (few-goals_of number scenario.goals);
    } in
    subst (λ (x : ControllerState × PosterState). Suits scenario x.0 x.1) (λ i. (sym c i, sym p i)) here

-- ---- longer histories

stands_longer : (scenario : Parts) (number : ℕ) (poster : PosterState) (reader : Option FrameReader) (history more : List Step) (last : Option ℕ) → StartsWith more history
    → Stands scenario number poster reader history last → Stands scenario number poster reader more last
stands_longer scenario number poster reader history more last w s all seen longer = s all seen (starts_trans all more history longer w)

steering_longer : (box : BoxState) (source : Book × Parts) (history more : List Step) (turns number : ℕ) (s : Steering) → StartsWith more history → IsSteering box source history turns number s → IsSteering box source more turns number s
steering_longer box source history more turns number (OnThread thread) w x = x
steering_longer box source history more turns number (Here s) w x =
    record { controller = x.controller; poster = x.poster; reader = x.reader; few = x.few; stands = stands_longer source.1 number s.poster s.reader history more s.last w x.stands }

-- one frame more was published
pub steering_next : (box : BoxState) (source now : Book × Parts) (history more : List Step) (step : Step) (turns next : ℕ) (list : List Steering) → now ≡ source → more ≡ history ++ step ∷ [] → next ≡ turns
    → AreSteering box source history turns list → AreSteering box now more next list
steering_next box source now history more step turns next list es em et all number other l =
    let here = steering_longer box source history more turns number (slice_index_or list number other) (step ∷ [], em) (all number other l) in
    subst (λ (x : (Book × Parts) × ℕ). IsSteering box x.0 more x.1 number (slice_index_or list number other)) (λ i. (sym es i, sym et i)) here

-- ---- a controller begins

pub begins : (box : BoxState) (source : Book × Parts) (turns number : ℕ) (s : Steered) → s.controller ≡ controller_of source.1 number → s.poster ≡ poster_of box source.1 number → s.reader ≡ None → s.last ≡ None
    → IsSteered box source [] turns number s
begins box source turns number s c p r l = record {
  controller = c;
  poster = p ∙ (λ i. record (poster_of box source.1 number) { posts = (ap (λ (x : PosterState). x.posts) (sym p)) i });
  reader = subst (λ (o : Option FrameReader). IfSome o (λ x. reader_source x ≡ source)) (sym r) tt;
  few = (let e = ap (λ (x : PosterState). length x.posts) p in omega (arith, e));
  stands = λ all seen longer.
      subst (λ (last : Option ℕ). HasPostedTurns (goals_of number source.1.goals) source.1 all s.poster last) (sym l)
      (ap (λ (x : PosterState). preferences_of x.posts) p);
}

-- its turns on a thread have ended
pub ended : (box : BoxState) (source from : Book × Parts) (history : List Step) (turns number : ℕ) (before : ControllerState) (first : PosterState) (end : ControllerState × PosterState × FrameReader × Result (Option ℕ) NoMemory) (last : Option ℕ) (s : Steered)
    → before ≡ controller_of source.1 number → first ≡ poster_of box source.1 number → from ≡ source → Ends before first from end → end.3 ≡ Ok last
    → s.controller ≡ end.0 → s.poster ≡ end.1 → s.reader ≡ Some end.2 → s.last ≡ last → IsSteered box source history turns number s
ended box source from history turns number before first end last s eb ep es ends ok sc sp sr sl =
    let goals = goals_of number source.1.goals in
    let turned : HasPostedTurns goals source.1 (reader_seen end.2) end.1 last =
    subst (λ (x : ControllerState × (Book × Parts)). HasPostedTurns x.0.goals x.1.1 (reader_seen end.2) end.1 last) (λ i. (eb i, es i))
    (subst (λ (d : Result (Option ℕ) NoMemory). IfOk d (λ last. HasPostedTurns before.goals from.1 (reader_seen end.2) end.1 last)) ok ends.turned) in
    let few : length end.1.posts ≤ (from.1.steps + 1) * length before.goals = subst (λ (d : Result (Option ℕ) NoMemory). IfOk d (λ _. length end.1.posts ≤ (from.1.steps + 1) * length before.goals)) ok ends.few in
    let count : length end.1.posts ≤ (source.1.steps + 1) * length goals = subst (λ (x : ControllerState × (Book × Parts)). length end.1.posts ≤ (x.1.1.steps + 1) * length x.0.goals) (λ i. (eb i, es i)) few in
    let more : (source.1.steps + 1) * length goals ≤ (source.1.steps + 1 + turns) * length goals = mul-le-mul (omega arith) (omega arith) in
    let posts : length s.poster.posts ≡ length end.1.posts = ap (λ (x : PosterState). length x.posts) sp in
    record {
      controller = sc ∙ (ends.same_controller ∙ eb);
      poster = subst (λ (x : PosterState × PosterState). IsSamePoster x.0 x.1) (λ i. (ep i, sym sp i)) ends.same_poster;
      reader = subst (λ (o : Option FrameReader). IfSome o (λ x. reader_source x ≡ source)) (sym sr) (ends.same_source ∙ es);
      few = omega (arith, count, more, posts);
      stands = λ all seen longer.
          let shown : StartsWith all (reader_seen end.2) = subst (λ (o : Option FrameReader). IfSome o (λ x. StartsWith all (reader_seen x))) sr seen in
          subst (λ (x : PosterState × Option ℕ). HasPostedTurns goals source.1 all x.0 x.1) (λ i. (sym sp i, sym sl i))
          (turned_longer (turn goals) source.1 all (reader_seen end.2) (preferences_of end.1.posts) last shown turned);
    }

-- ---- a turn on the stepping thread

module _ (box : BoxState) (writer : FrameWriter) (course : Course) (number turns : ℕ) (s : Steered) (valid : IsValid course.scenario) (published : IsPublished writer course) (present : IsPresent course.scenario course.frame)
    (steered : IsSteered box (writer_source writer) (writer_history writer) turns number s) where
  own_goals : s.controller.goals ≡ goals_of number course.scenario.goals
  own_goals = ap (λ (c : ControllerState). c.goals) steered.controller ∙ ap (λ (p : Parts). goals_of number p.goals) published.scenario

  pub can_turn : (frame : Snapshot) → frame ≡ course.frame → CanTurn s.controller.goals frame
  can_turn frame e =
      subst (λ (x : List Goal × Snapshot). CanTurn x.0 x.1) (λ i. (sym own_goals i, sym e i))
      (present_can_turn course.scenario (goals_of number course.scenario.goals) course.frame valid.steps present (limits-goals_of number (length course.scenario.agents) course.scenario.goals valid.goals))

  own_poster : s.poster ≡ record (poster_of box course.scenario number) { posts = s.poster.posts }
  own_poster = subst (λ (p : Parts). IsSamePoster (poster_of box p number) s.poster) published.scenario steered.poster

  few_posts : length s.poster.posts ≤ (course.scenario.steps + 1 + turns) * length (goals_of number course.scenario.goals)
  few_posts = subst (λ (p : Parts). length s.poster.posts ≤ (p.steps + 1 + turns) * length (goals_of number p.goals)) published.scenario steered.few

  pub has_room : turns ≤ course.scenario.steps + 1 → length s.poster.posts + length s.controller.goals ≤ s.poster.most
  has_room few =
      let scenario = course.scenario in
      let room = room_for_turn scenario scenario.goals (goals_of number scenario.goals) (most_posts scenario) turns (length s.poster.posts) (omega arith) (few-goals_of number scenario.goals) few few_posts in
      let most = ap (λ (p : PosterState). p.most) own_poster in
      let goals = ap (λ (l : List Goal). length l) own_goals in
      omega (arith, room, most, goals)

  -- after the turn
  pub after_turn : (next : Steered) (frame : Snapshot) → frame ≡ course.frame → MatchOption s.last (Unit {0}) (λ n. n < frame.number) → next.controller ≡ s.controller
      → next.poster ≡ after_preferences s.poster (turn s.controller.goals frame) → next.reader ≡ s.reader → next.last ≡ Some frame.number
      → IsSteered box (writer_source writer) (writer_history writer) (turns + 1) number next × IsLate (writer_history writer) next.last
  after_turn next frame e newer nc np nr nl =
      let scenario : Parts = (writer_source writer).1 in
      let history : List Step = writer_history writer in
      let goals = goals_of number scenario.goals in
      let mine : s.controller.goals ≡ goals = ap (λ (c : ControllerState). c.goals) steered.controller in
      let posted = turn_posted s.poster next.poster s.controller.goals frame np in
      let at : frame.number ≡ length history = ap (λ (f : Snapshot). f.number) e ∙ published.number in
      let shown : frame ≡ last_of (start_of scenario) history = e ∙ (published.frame ∙ ap (λ (p : Parts). last_of (start_of p) history) (sym published.scenario)) in
      let size = ap (λ (l : List Goal). length l) mine in
      let more : (scenario.steps + 1 + (turns + 1)) * length goals ≡ (scenario.steps + 1 + turns) * length goals + length goals = omega arith in (
        record {
          controller = nc ∙ steered.controller;
          poster = same_poster-trans (poster_of box scenario number) s.poster next.poster steered.poster posted.0;
          reader = subst (λ (o : Option FrameReader). IfSome o (λ r. reader_source r ≡ writer_source writer)) (sym nr) steered.reader;
          few = omega (arith, steered.few, posted.2, size, more);
          stands = λ all seen longer.
              let before = steered.stands all (subst (λ (o : Option FrameReader). IfSome o (λ r. StartsWith all (reader_seen r))) nr seen) longer in
              let small : MatchOption s.last (Unit {0}) (λ n. n < length history) = subst (λ (m : ℕ). MatchOption s.last (Unit {0}) (λ n. n < m)) at newer in
              let here : TurnsTo (turn goals) (frames_of scenario all) (preferences_of s.poster.posts ++ turn goals (last_of (start_of scenario) history)) (length history) =
              turned_amid (turn goals) scenario all history (preferences_of s.poster.posts) s.last longer before small in
              let list : preferences_of s.poster.posts ++ turn goals (last_of (start_of scenario) history) ≡ preferences_of next.poster.posts =
              sym (posted.1 ∙ (λ i. preferences_of s.poster.posts ++ turn (mine i) (shown i))) in
              subst (λ (last : Option ℕ). HasPostedTurns goals scenario all next.poster last) (sym nl)
              (subst (λ (x : List Preference × ℕ). TurnsTo (turn goals) (frames_of scenario all) x.0 x.1) (λ i. (list i, sym at i)) here);
        },
        subst (λ (last : Option ℕ). IsLate history last) (sym nl) (omega (arith, at)),
      )

-- ---- all posters

pub length-first_posters : (box : BoxState) (scenario : Parts) → length (first_posters box scenario) ≡ controllers_of scenario.goals
length-first_posters box scenario = length-map-range_with_len (poster_of box scenario) 0 (controllers_of scenario.goals)

-- the poster that comes next is that of the next controller
pub next_poster : (box : BoxState) (scenario : Parts) (all done : List PosterState) (poster : PosterState) (rest : List PosterState) (number : ℕ) → all ≡ first_posters box scenario → all ≡ done ++ poster ∷ rest → length done ≡ number
    → poster ≡ poster_of box scenario number
next_poster box scenario all done poster rest number e split n =
    let below = next_below all done poster rest split in
    let few = ap length e ∙ length-first_posters box scenario in
    let here : slice_index_or all (length done) poster ≡ poster_of box scenario number =
    ap (λ l. slice_index_or l (length done) poster) e ∙ get_or-map-range_with_len (poster_of box scenario) 0 (controllers_of scenario.goals) (length done) number poster (omega (arith, below, few)) (omega (arith, n)) in
    sym (at_next all done poster rest poster split) ∙ here
