use Rattle.std.proofs.Common.{◌≡◌, ◌∙◌, ◌++◌, ◌∷◌, ◌+◌, [], List, ap, subst, sym, drop, length, min}
use Rattle.left_right.specs.Sides.{view}
use Rattle.crowd_data.specs.Run.{Snapshot, start_of}
use Rattle.crowd_data.specs.Scenario.{Parts}
use Rattle.published_frames.specs.declared.entry.Step.{Step}
use Rattle.published_frames.specs.declared.log_prefix.LogPrefix.{LogPrefix}
use Rattle.published_frames.specs.declared.shown.Publication.{Publication}
use Rattle.published_frames.specs.History.{CanFollow, last_of, step_of}
use Rattle.published_frames.specs.Log.{attempted_in, is_settled, length_word, published_in, scenario_in}
use Rattle.published_frames.specs.Rule.{name_of, view_of}
use Rattle.published_frames.specs.Taken.{count_of, most_counted, posts_from}
use Rattle.published_frames.proofs.Histories.{count_of-append}
use Rattle.published_frames.proofs.Keeping.{prefix_next, publish_one}
use Rattle.published_frames.proofs.writer.FrameWriter.after_publish.Goals as goal

pub publish_as-copies-requires : goal.publish_as-copies-requires
publish_as-copies-requires g c next is =
    let self = c.args.self in
    let copies = c.append.new.self in
    let desk : copies.desk ≡ self.copies.desk = c.in-Ok.ensures.desk in
    let publication : Publication = record { moves = c.args.moves; prefix = c.again.result } in
    let step = step_of c.args.moves in
    let log = c.in-Ok.ensures.pending ∙ ap (λ (l : List Publication). l ++ publication ∷ []) self.none_pending in
    let scenario = self.one_scenario.0 ∙ sym self.one_scenario.1 in
    let history = self.one_history.0 in
    let follows = subst (λ (t : Parts × List Step). CanFollow t.0 t.1 c.args.moves) (λ i. (scenario i, history i)) c.requires in
    let same = c.requires.next.bodies ∙ sym (ap length self.bodies) in
    let book = ap (λ (p : LogPrefix). p.seen.book) c.again.ensures ∙ (c.attempt-log.ensures.book ∙ sym self.one_book.1) in
    let goes_on = ap (λ (p : LogPrefix). scenario_in p.seen.log) c.again.ensures ∙ (c.attempt-log.ensures.scenario ∙ sym self.one_scenario.1) in
    let more = ap (λ (p : LogPrefix). attempted_in p.seen.log) c.again.ensures ∙ (c.attempt-log.ensures.attempted ∙ ap (λ (h : List Step). h ++ step ∷ []) self.one_history.1) in
    publish_one copies.desk.place.id (view copies.desk.place) copies.desk.shown.value next publication (drop copies.behind copies.log.items) log
    (rw desk follows) (rw desk same) (rw desk book) (rw desk goes_on) (rw desk more) is

pub invariant_of-writer-in-Ok-done : goal.invariant_of-writer-in-Ok-done
invariant_of-writer-in-Ok-done g c =
    let self = c.args.self in
    let copies = c.append.new.self in
    let shown = c.publish_as-copies.result.0.desk.shown.value in
    let desk : copies.desk ≡ self.copies.desk = c.in-Ok.ensures.desk in
    let publication : Publication = record { moves = c.args.moves; prefix = c.again.result } in
    let step = step_of c.args.moves in
    let log = c.in-Ok.ensures.pending ∙ ap (λ (l : List Publication). l ++ publication ∷ []) self.none_pending in
    let same = c.requires.next.bodies ∙ sym (ap length self.bodies) in
    let values = rw c.in-Ok-done.is at c.publish_as-copies.ensures.values in
    let rule = rw c.in-Ok-done.is at c.publish_as-copies.ensures.rule in
    let prefix : shown.prefix ≡ c.attempt-log.result
    = prefix_next copies.desk.shown.value shown publication (drop copies.behind copies.log.items) log (rw desk same) values.0 ∙ c.again.ensures in
    let again = c.again-in-Ok-done.ensures in
    let success = c.success-log.ensures in
    let book = ap (λ (p : LogPrefix). p.seen.book) prefix ∙ sym success.book in
    let now = ap (λ (p : LogPrefix). scenario_in p.seen.log) prefix ∙ sym success.scenario in
    let kept = ap (λ (p : LogPrefix). scenario_in p.seen.log) again in
    let whole = success.published ∙ sym (ap (λ (p : LogPrefix). attempted_in p.seen.log) prefix) in
    let all = ap (λ (p : LogPrefix). published_in p.seen.log) again ∙ whole in
    let before = self.one_history.1 ∙ sym self.one_history.0 in
    let more = ap (λ (p : LogPrefix). published_in p.seen.log) again ∙ (success.published ∙ (c.attempt-log.ensures.attempted ∙ ap (λ (h : List Step). h ++ step ∷ []) before)) in
    let scenario = now ∙ sym kept in
    record {
      length_is = self.length_is ∙ ap length_word (sym (success.book ∙ c.attempt-log.ensures.book));
      one_book = (ap (λ (p : LogPrefix). p.seen.book) again, book);
      one_scenario = (kept, now);
      one_history = (all, whole);
      number = rule.shows.number ∙ ap length (sym all);
      bodies = ap (λ (s : Snapshot). s.bodies) rule.shows.frame ∙ (λ i. (last_of (start_of (scenario i)) (sym all i)).bodies);
      settled = ap (λ (p : LogPrefix). is_settled p.seen.log) again ∙ success.settled;
      none_pending = values.1;
      knows_all = rule.knows_all ∙ (λ i. view_of (name_of (book i)) (now i) (attempted_in shown.prefix.seen.log));
      counted = λ controller h.
          c.with-more.ensures controller h
          ∙ ((λ i. min (self.counted controller h i + length (posts_from controller (c.items.ensures i))) most_counted)
          ∙ (sym (count_of-append controller (published_in self.published.seen.log) step) ∙ ap (count_of controller) (sym more)));
    }
