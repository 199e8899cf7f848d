-- Each step keeps the rule of the frames.
use Rattle.std.proofs.Common.{◌≡◌, ◌≢◌, ℕ, eqb, eq-eqb, true, true≢false, List, [], ◌∷◌, ◌++◌, length, set, sym, refl, ap, ◌∙◌, subst, ⊎_elim, arith, length-append, fold}
use mathlib.Core.Option.{some, some-ne-none}
use lib.ListN.{get_elem?}
use Rattle.crossbeam_utils.specs.Register.{Admits, TurnsAt, Forks, Merges}
use Rattle.atomic_table.proofs.Lists.{at_set, at_snoc}
use Rattle.crowd_data.specs.declared.frame.Body.{Body}
use Rattle.crowd_data.specs.Run.{IsNext, Snapshot, after_posts, snapshot_of, start_of}
use Rattle.crowd_data.specs.Scenario.{IsValid, Parts}
use Rattle.published_frames.specs.declared.entry.Step.{Step}
use Rattle.published_frames.specs.declared.log_prefix.LogPrefix.{LogPrefix}
use Rattle.published_frames.specs.declared.shown.Publication.{Publication}
use Rattle.published_frames.specs.declared.shown.ShownFrame.{ShownFrame}
use Rattle.published_frames.specs.declared.view.FrameView.{FrameView}
use Rattle.published_frames.specs.Applied.{applied_to}
use Rattle.published_frames.specs.History.{CanFollow, IsHistory, IsReadable, StartsWith, frame_of, last_of, prefs_of, step_of}
use Rattle.published_frames.specs.Log.{attempted_in, scenario_in}
use Rattle.published_frames.specs.Rule.{Enters, IsKept, MatchesWhatItKnows, Publishes, ShowsLast, history_at, name_of, no_view, scenario_at, view_at}
use Rattle.published_frames.specs.Taken.{posts_of}
use Rattle.published_frames.proofs.Accounts.{starts_itself, starts_trans}
use Rattle.published_frames.proofs.Histories.{continues_more, last_of-append, next_readable, prefs_of-last_of, start_readable}

-- ---- views

each_set : (F : FrameView → Type 0) (views : List FrameView) (place : ℕ) (view : FrameView) → F view → ((j : ℕ) (other : FrameView) → j ≢ place → get_elem? views j ≡ some other → F other)
    → (j : ℕ) (other : FrameView) → get_elem? (set views place view) j ≡ some other → F other
each_set F views place view own others j other at =
    ⊎_elim (λ (t : (j ≡ place) × (view ≡ other)). subst F t.1 own)
    (λ (t : (j ≢ place) × (get_elem? views j ≡ some other)). others j other t.0 t.1) (at_set views place j view other at)

no_view_matches : (shown : ShownFrame) → MatchesWhatItKnows shown no_view
no_view_matches shown knows = absurd (true≢false (sym knows))

view_at_matches : (shown : ShownFrame) → MatchesWhatItKnows shown (view_at shown)
view_at_matches shown knows = record { name = refl; scenario = refl; seen = starts_itself (history_at shown) }

-- a new reader
pub admits : Admits IsKept no_view
admits shown views kept = record {
  shows = kept.shows;
  each = λ place view at.
      ⊎_elim (λ (t : get_elem? views place ≡ some view). kept.each place view t) (λ (t : no_view ≡ view). subst (MatchesWhatItKnows shown) t (no_view_matches shown))
      (at_snoc views no_view view place at);
}

-- a reader that enters
pub enters : (place : ℕ) (view : FrameView) (shown : ShownFrame) → TurnsAt IsKept place view shown shown Enters
enters place view shown views kept at = (
  view_at shown,
  record {
    shows = kept.shows;
    each = each_set (MatchesWhatItKnows shown) views place (view_at shown) (view_at_matches shown) (λ j other _ e. kept.each j other e);
  },
  record { knows_all = refl; later = kept.each place view at; shows = kept.shows },
)

-- the next copy goes on from the one before, of one log and one scenario
pub record GoesOn (shown next : ShownFrame) : Type 0 where
  pub book : next.prefix.seen.book ≡ shown.prefix.seen.book
  pub scenario : scenario_at next ≡ scenario_at shown
  pub later : StartsWith (history_at next) (history_at shown)

still_matches : (shown next : ShownFrame) → GoesOn shown next → (view : FrameView) → MatchesWhatItKnows shown view → MatchesWhatItKnows next view
still_matches shown next on view matches knows =
    let was = matches knows in
    record {
      name = was.name ∙ ap name_of (sym on.book);
      scenario = was.scenario ∙ sym on.scenario;
      seen = starts_trans (history_at next) (history_at shown) view.seen on.later was.seen;
    }

publishes : (place : ℕ) (view : FrameView) (shown next : ShownFrame) → GoesOn shown next → (ShowsLast shown → ShowsLast next) → TurnsAt IsKept place view shown next Publishes
publishes place view shown next on shows views kept at = (
  view_at next,
  record {
    shows = shows kept.shows;
    each = each_set (MatchesWhatItKnows next) views place (view_at next) (view_at_matches next) (λ j other _ e. still_matches shown next on other (kept.each j other e));
  },
  record { knows_all = refl; shows = shows kept.shows },
)

-- the writer shares its view
pub forks : (place : ℕ) (view : FrameView) → Forks IsKept place view view view
forks place view shown views kept at = record {
  shows = kept.shows;
  each = λ j other e.
      ⊎_elim (λ (t : get_elem? (set views place view) j ≡ some other). each_set (MatchesWhatItKnows shown) views place view (kept.each place view at) (λ j other _ e. kept.each j other e) j other t)
      (λ (t : view ≡ other). subst (MatchesWhatItKnows shown) t (kept.each place view at)) (at_snoc (set views place view) view other j e);
}

-- a reader takes a shared view in place of its own
pub merges : (place : ℕ) (view : FrameView) (other : ℕ) (shared : FrameView) → Merges IsKept place view other shared shared no_view
merges place view other shared shown views kept at ne there =
    let was : get_elem? views other ≡ some shared
    = ⊎_elim (λ (t : (other ≡ place) × (shared ≡ shared)). absurd (ne t.0)) (λ (t : (other ≢ place) × (get_elem? views other ≡ some shared)). t.1) (at_set views place other shared shared there) in
    record {
      shows = kept.shows;
      each = each_set (MatchesWhatItKnows shown) (set views place shared) other no_view (no_view_matches shown)
          (λ j u _ e. each_set (MatchesWhatItKnows shown) views place shared (kept.each other shared was) (λ j u _ e. kept.each j u e) j u e);
    }

-- ---- a copy with one publication more

-- the bodies, the number and the log of a copy
abbrev pub Face : Type 0
Face = List Body × ℕ × LogPrefix

abbrev pub face : ShownFrame → Face
face shown = (shown.frame.bodies.items, shown.frame.number, shown.prefix)

abbrev pub face_of : Publication → Face
face_of publication = (publication.moves.frame.bodies.items, publication.moves.frame.number, publication.prefix)

pub applied_one : (shown : ShownFrame) (publication : Publication) (log : List Publication) (after : Face) → log ≡ publication ∷ []
    → length publication.moves.frame.bodies.items ≡ length shown.frame.bodies.items → after ≡ fold applied_to (face shown) log → after ≡ face_of publication
applied_one shown publication log after one same is =
    let t : eqb (length shown.frame.bodies.items) (length publication.moves.frame.bodies.items) ≡ true = eq-eqb (length shown.frame.bodies.items) (length publication.moves.frame.bodies.items) (sym same) in
    (is ∙ ap (fold applied_to (face shown)) one) ∙ rw t refl

-- the next copy shows what was published
pub shows_next : (shown next : ShownFrame) (publication : Publication) → CanFollow (scenario_at shown) (history_at shown) publication.moves
    → face next ≡ face_of publication → scenario_at next ≡ scenario_at shown → history_at next ≡ history_at shown ++ step_of publication.moves ∷ [] → ShowsLast shown → ShowsLast next
shows_next shown next publication follows e scenario history shows =
    let step : Step = step_of publication.moves in
    let first : Snapshot = start_of (scenario_at shown) in
    let more : List Step = history_at shown ++ step ∷ [] in
    let frame : snapshot_of next.frame ≡ frame_of step = λ i. record { number = (e i).1; bodies = (e i).0 } in
    let number = follows.next.number in
    let steps = follows.next.below in
    let last : (last_of first (history_at shown)).number ≡ length (history_at shown) = ap (λ (s : Snapshot). s.number) (sym shows.frame) ∙ shows.number in
    let len = length-append (history_at shown) (step ∷ []) in
    let legal : IsHistory (scenario_at shown) more = record {
      legal = continues_more (scenario_at shown) first (history_at shown) step shows.history.legal follows.next follows.in_range;
      steps = omega (arith, steps, last, len);
    } in
    let readable : IsReadable (scenario_at shown) (frame_of step)
    = next_readable (scenario_at shown) (snapshot_of shown.frame) (frame_of step) step.posts shows.readable (subst (λ (s : Snapshot). IsNext (scenario_at shown) s step.posts (frame_of step)) (sym shows.frame) follows.next) follows.in_range in
    record {
      history = subst (λ (t : Parts × List Step). IsHistory t.0 t.1) (λ i. (sym scenario i, sym history i)) legal;
      frame = frame ∙ (sym (last_of-append first (history_at shown) step) ∙ (λ i. last_of (start_of (sym scenario i)) (sym history i)));
      number = ap (λ (f : Face). f.1) e ∙ (omega (arith, number, last, len) ∙ ap length (sym history));
      readable = subst (λ (t : Parts × Snapshot). IsReadable t.0 t.1) (λ i. (sym scenario i, sym frame i)) readable;
    }

-- the writer publishes one publication
pub publish_one : (place : ℕ) (view : FrameView) (shown next : ShownFrame) (publication : Publication) (log : List Publication) → log ≡ publication ∷ []
    → CanFollow (scenario_at shown) (history_at shown) publication.moves → length publication.moves.frame.bodies.items ≡ length shown.frame.bodies.items
    → publication.prefix.seen.book ≡ shown.prefix.seen.book → scenario_in publication.prefix.seen.log ≡ scenario_at shown
    → attempted_in publication.prefix.seen.log ≡ history_at shown ++ step_of publication.moves ∷ []
    → ◌≡◌ {A = Face} (next.frame.bodies.items, next.frame.number, next.prefix) (fold applied_to (shown.frame.bodies.items, shown.frame.number, shown.prefix) log)
    → TurnsAt IsKept place view shown next Publishes
publish_one place view shown next publication log one follows same book scenario history is =
    let e : face next ≡ face_of publication = applied_one shown publication log (face next) one same is in
    let prefix : next.prefix ≡ publication.prefix = ap (λ (f : Face). f.2) e in
    let now : scenario_at next ≡ scenario_at shown = ap (λ (p : LogPrefix). scenario_in p.seen.log) prefix ∙ scenario in
    let more : history_at next ≡ history_at shown ++ step_of publication.moves ∷ [] = ap (λ (p : LogPrefix). attempted_in p.seen.log) prefix ∙ history in
    publishes place view shown next (record {
      book = ap (λ (p : LogPrefix). p.seen.book) prefix ∙ book;
      scenario = now;
      later = (step_of publication.moves ∷ [], more);
    }) (shows_next shown next publication follows e now more)

-- the writer publishes nothing new
pub publish_none : (place : ℕ) (view : FrameView) (shown next : ShownFrame) (log : List Publication) → log ≡ []
    → ◌≡◌ {A = Face} (next.frame.bodies.items, next.frame.number, next.prefix) (fold applied_to (shown.frame.bodies.items, shown.frame.number, shown.prefix) log)
    → TurnsAt IsKept place view shown next Publishes
publish_none place view shown next log none is =
    let e : face next ≡ face shown = is ∙ ap (fold applied_to (face shown)) none in
    let prefix : next.prefix ≡ shown.prefix = ap (λ (f : Face). f.2) e in
    let now : scenario_at next ≡ scenario_at shown = ap (λ (p : LogPrefix). scenario_in p.seen.log) prefix in
    let same : history_at next ≡ history_at shown = ap (λ (p : LogPrefix). attempted_in p.seen.log) prefix in
    let frame : snapshot_of next.frame ≡ snapshot_of shown.frame = λ i. record { number = (e i).1; bodies = (e i).0 } in
    publishes place view shown next (record {
      book = ap (λ (p : LogPrefix). p.seen.book) prefix;
      scenario = now;
      later = subst (λ (h : List Step). StartsWith h (history_at shown)) (sym same) (starts_itself (history_at shown));
    }) (λ shows. record {
      history = subst (λ (t : Parts × List Step). IsHistory t.0 t.1) (λ i. (sym now i, sym same i)) shows.history;
      frame = frame ∙ (shows.frame ∙ (λ i. last_of (start_of (sym now i)) (sym same i)));
      number = ap (λ (f : Face). f.1) e ∙ (shows.number ∙ ap length (sym same));
      readable = subst (λ (t : Parts × Snapshot). IsReadable t.0 t.1) (λ i. (sym now i, sym frame i)) shows.readable;
    })

-- ---- the first copy

only_one : (view : FrameView) (place : ℕ) (other : FrameView) → get_elem? (view ∷ []) place ≡ some other → view ≡ other
only_one view place other at = ⊎_elim (λ (t : get_elem? [] place ≡ some other). absurd (some-ne-none other (sym t))) (λ (t : view ≡ other). t) (at_snoc [] view other place at)

-- frame 0 is shown, and the one view was told nothing
pub first_kept : (shown : ShownFrame) → IsValid (scenario_at shown) → history_at shown ≡ [] → snapshot_of shown.frame ≡ start_of (scenario_at shown) → IsKept shown (no_view ∷ [])
first_kept shown valid none frame = record {
  shows = record {
    history = subst (λ (h : List Step). IsHistory (scenario_at shown) h) (sym none) (record { legal = tt; steps = omega arith });
    frame = frame ∙ ap (last_of (start_of (scenario_at shown))) (sym none);
    number = ap (λ (s : Snapshot). s.number) frame ∙ ap length (sym none);
    readable = subst (IsReadable (scenario_at shown)) (sym frame) (start_readable (scenario_at shown) valid);
  };
  each = λ place view at. subst (MatchesWhatItKnows shown) (only_one no_view place view at) (no_view_matches shown);
}

-- ---- what a step told

-- the preferred velocities in the frame that is lent
pub shown_prefs : (shown : ShownFrame) (view : FrameView) → view ≡ view_at shown → ShowsLast shown
    → prefs_of shown.frame.bodies.items ≡ prefs_of (after_posts (posts_of view.seen) (start_of view.scenario).bodies)
shown_prefs shown view e shows =
    ap (λ (s : Snapshot). prefs_of s.bodies) shows.frame ∙ (prefs_of-last_of (scenario_at shown) (start_of (scenario_at shown)) (history_at shown) shows.history.legal
    ∙ (λ i. prefs_of (after_posts (posts_of (sym e i).seen) (start_of (sym e i).scenario).bodies)))

-- the log of the copy that was published
pub prefix_next : (shown next : ShownFrame) (publication : Publication) (log : List Publication) → log ≡ publication ∷ []
    → length publication.moves.frame.bodies.items ≡ length shown.frame.bodies.items
    → ◌≡◌ {A = Face} (next.frame.bodies.items, next.frame.number, next.prefix) (fold applied_to (shown.frame.bodies.items, shown.frame.number, shown.prefix) log)
    → next.prefix ≡ publication.prefix
prefix_next shown next publication log one same is = ap (λ (f : Face). f.2) (applied_one shown publication log (face next) one same is)
