-- What holds once the last frame was written.
use Rattle.std.proofs.Common.{◌≡◌, ◌∙◌, ◌+◌, ◌<◌, ◌≤◌, ◌⊎◌, inl, inr, ⊎_elim, ℕ, List, [], ◌∷◌, ◌++◌, length, map, slice_index_or, refl, ap, sym, subst, arith, length-append, Option, Some, None}
use Rattle.std.specs.Prelude.{IfSome}
use Rattle.std.specs.List.{All}
use Rattle.std.proofs.lemmas.Bool.{cases_lt}
use Rattle.std.proofs.lemmas.List.{append-nil, get_or-map, length-map}
use Rattle.std.specs.Io.KnownBytes.{Appends}
use Rattle.std.proofs.KnownBytes.{Appends-trans}
use Rattle.logbook.specs.Pages.{Book}
use Rattle.outside_io.specs.Causes.{AppendsPrefix, Rose}
use Rattle.outside_io.proofs.WroteLemmas.{prefix_then}
use Rattle.exact_algebra.proofs.Elements.{back_of}
use Rattle.fixed_vec.specs.Held.{Held}
use Rattle.crowd_data.specs.declared.post.Post.{Post}
use Rattle.crowd_data.specs.Run.{Snapshot, script_of, start_of}
use Rattle.crowd_data.specs.Scenario.{IsValid, Parts, controllers_of}
use Rattle.frame_step.specs.Present.{Course}
use Rattle.frame_text.specs.Lines.{end_line}
use Rattle.frame_text.specs.Transcript.{IsTranscript, frame_text, scenario_text}
use Rattle.post_box.specs.Ends.{AreOnceInOrder, BoxState, IsPosterOf, PosterState, TakerState}
use Rattle.post_box.specs.History.{AreConsecutive, IsBoxPost, posts_by}
use Rattle.published_frames.specs.declared.entry.Step.{Step}
use Rattle.published_frames.specs.declared.reader.FrameReader.{FrameReader}
use Rattle.published_frames.specs.declared.writer.FrameWriter.{FrameWriter}
use Rattle.published_frames.specs.History.{IsHistory, StartsWith, frame_of, last_of}
use Rattle.published_frames.specs.Taken.{posts_of}
use Rattle.published_frames.specs.Names.{reader_seen, reader_source, writer_history, writer_source}
use Rattle.controller_turns.specs.Turns.{Preference, TurnsTo, frames_of, goals_of, preferences_of, turn}
use Rattle.controller_turns.proofs.FrameTurns.{to_below}
use Rattle.live_session.specs.declared.fault.LiveFault.{LiveFault}
use Rattle.live_session.specs.declared.fault.LiveFault.TheVariants.{WriteFault}
use Rattle.live_session.specs.declared.steered.Steered.{Steered}
use Rattle.outside_io.specs.Sinks.{SinkState}
use Rattle.live_session.specs.LiveText.{AreLiveLists, IsLiveList, IsLiveText, TurnsToTheEnd, WroteLive, WroteLivePart, joined}
use Rattle.live_session.specs.Running.{IsRunning, IsTaking, lists_of, step_to, text_so_far}
use Rattle.live_session.specs.Session.{IsClosing}
use Rattle.live_session.specs.Steering.{AreLate, IsLate, IsSteered, Stands}
use Rattle.live_session.proofs.Rows.{some_item}
use Rattle.crowd_data.proofs.Controllers.{controllers_few}
use Rattle.live_session.proofs.Taken.{joined-lists_of, taken_more}
use Rattle.live_session.proofs.Texts.{follows, is_transcript, whole_text}
use Rattle.live_session.proofs.Written.{part_of, rose_later}

-- ---- the last reads

none_left : (rest : List Step) → length rest ≡ 0 → rest ≡ []
none_left [] e = refl
none_left (step ∷ rest) e = absurd (omega arith)

-- a read after a note of the whole history, which has all steps: what was seen before is a beginning of that history
pub seen_before : (published learnt read seen : List Step) → StartsWith learnt published → StartsWith read learnt → StartsWith read seen → length read ≤ length published → StartsWith published seen
seen_before published learnt read seen told later before few =
    let a = length-append published told.0 in
    let b = length-append learnt later.0 in
    let c = ap length told.1 in
    let d = ap length later.1 in
    let one : learnt ≡ published = told.1 ∙ (ap (λ l. published ++ l) (none_left told.0 (omega arith)) ∙ append-nil published) in
    let two : read ≡ learnt = later.1 ∙ (ap (λ l. learnt ++ l) (none_left later.0 (omega arith)) ∙ append-nil learnt) in
    subst (λ (l : List Step). StartsWith l seen) (two ∙ one) before

-- ---- the parts of all controllers

module _ (box : BoxState) (source : Book × Parts) (history : List Step) (turns : ℕ) (list : List Steered) (late : AreLate box source history turns list) where
  poster_at : (number : ℕ) (x : Steered) (other : PosterState) → number < length list → slice_index_or (map (λ (s : Steered). s.poster) list) number other ≡ (slice_index_or list number x).poster
  poster_at number x other h = get_or-map (λ (s : Steered). s.poster) list number x other h

  reader_at : (number : ℕ) (x : Steered) (other : Option FrameReader) → number < length list → slice_index_or (map (λ (s : Steered). s.reader) list) number other ≡ (slice_index_or list number x).reader
  reader_at number x other h = get_or-map (λ (s : Steered). s.reader) list number x other h

  -- all posters are the box's
  pub posters_of_box : All (IsPosterOf box) (map (λ (s : Steered). s.poster) list)
  posters_of_box number other h =
      let inside : number < length list = omega (arith, h, length-map list (λ (s : Steered). s.poster)) in
      let x = some_item list number inside in
      subst (IsPosterOf box) (sym (poster_at number x other inside)) (ap (λ (p : PosterState). p.queue) (late number x inside).0.poster)

  -- all readers are of this source
  pub readers_of : (now : Book × Parts) → now ≡ source → All (λ (reader : Option FrameReader). IfSome reader (λ r. reader_source r ≡ now)) (map (λ (s : Steered). s.reader) list)
  readers_of now e number other h =
      let inside : number < length list = omega (arith, h, length-map list (λ (s : Steered). s.reader)) in
      let x = some_item list number inside in
      subst (λ (o : Option FrameReader). IfSome o (λ r. reader_source r ≡ now)) (sym (reader_at number x other inside))
      (subst (λ (from : Book × Parts). IfSome (slice_index_or list number x).reader (λ r. reader_source r ≡ from)) (sym e) (late number x inside).0.reader)

-- ---- the turns

one_of : (n steps : ℕ) → steps ≤ n + 1 → n < steps + 1 → (n + 1 ≡ steps) ⊎ (n ≡ steps)
one_of n steps low high = ⊎_elim (λ (below : n < steps). inl (omega arith)) (λ (over : steps ≤ n). inr (omega arith)) (cases_lt n steps)

late_turns : (scenario : Parts) (number : ℕ) (poster : PosterState) (reader : Option FrameReader) (history all : List Step) (last : Option ℕ) (posts : List Post) → Stands scenario number poster reader history last → IsLate history last
    → StartsWith all history → IfSome reader (λ r. StartsWith all (reader_seen r)) → length all ≡ scenario.steps → length history + 1 ≡ scenario.steps → posts ≡ poster.posts → TurnsToTheEnd scenario number (frames_of scenario all) (preferences_of posts)
late_turns scenario number poster reader history all None posts stands late longer seen full before e = absurd late
late_turns scenario number poster reader history all (Some n) posts stands late longer seen full before e =
    let t = turn (goals_of number scenario.goals) in
    let to : TurnsTo t (frames_of scenario all) (preferences_of poster.posts) n = stands all seen longer in
    let below = to_below t (frames_of scenario all) (preferences_of poster.posts) n to in
    let count = length-map all frame_of in
    (n, one_of n scenario.steps (omega (arith, late)) (omega (arith, below, count)), subst (λ (list : List Preference). TurnsTo t (frames_of scenario all) list n) (ap preferences_of (sym e)) to)

-- ---- the whole

-- the last step was made with the posts that were left, written and published
pub record IsLast (box : BoxState) (writer after : FrameWriter) (course next : Course) (taker : TakerState) (list : List Steered) (left posts : List Post) : Type 0 where
  pub valid : IsValid course.scenario
  pub scenario : next.scenario ≡ course.scenario
  pub source : writer_source after ≡ writer_source writer
  pub number : next.frame.number ≡ course.frame.number + 1
  pub history : writer_history after ≡ writer_history writer ++ step_to next.frame posts ∷ []
  pub listed : posts ≡ script_of course.scenario (course.frame.number + 1) ++ left
  pub once : AreOnceInOrder (map (λ (s : Steered). s.poster) list) (taker.posts ++ left)
  pub consecutive : (controller : ℕ) → AreConsecutive (posts_by controller (taker.posts ++ left))
  pub seen : All (λ (reader : Option FrameReader). IfSome reader (λ r. StartsWith (writer_history after) (reader_seen r))) (map (λ (s : Steered). s.reader) list)

module _ (begin before start now : SinkState) (box : BoxState) (writer after : FrameWriter) (course next : Course) (room : Held Post) (place : ℕ) (taker : TakerState) (list : List Steered) (left posts : List Post)
    (closing : IsClosing begin before box writer course room place taker list) (running : IsRunning start now after next) (is : IsLast box writer after course next taker list left posts) where
  abbrev parts : Parts
  parts = course.scenario

  abbrev all : List Step
  all = writer_history after

  legal : IsHistory parts all
  legal = subst (λ (p : Parts). IsHistory p all) is.scenario running.published.legal

  lists : AreLiveLists parts 1 (lists_of all)
  lists = subst (λ (p : Parts). AreLiveLists p 1 (lists_of all)) is.scenario running.posts

  full : length all ≡ parts.steps
  full = omega (arith, running.published.number, is.number, closing.last)

  -- the posts of a controller are what it posted
  module _ (number : ℕ) (below : number < controllers_of parts.goals) where
    inside : number < length list
    inside = omega (arith, closing.count)

    abbrev mine : Steered
    mine = slice_index_or list number (some_item list number inside)

    known : IsSteered box (writer_source writer) (writer_history writer) (course.frame.number + 1) number mine × IsLate (writer_history writer) mine.last
    known = closing.late number (some_item list number inside) inside

    in_lists : posts_by number (joined (lists_of all)) ≡ posts_by number (taker.posts ++ left)
    in_lists =
        let few = controllers_few (length parts.agents) parts.goals is.valid.goals in
        ap (posts_by number) (joined-lists_of all) ∙ (ap (λ h. posts_by number (posts_of h)) is.history
        ∙ taken_more number (omega (arith, few)) parts (writer_history writer) next.frame (course.frame.number + 1) posts left taker.posts (closing.under_way.taking.taken number below) is.listed)

    pub in_order : AreConsecutive (posts_by number (joined (lists_of all)))
    in_order = subst AreConsecutive (sym in_lists) (is.consecutive number)

    posted : posts_by number (taker.posts ++ left) ≡ mine.poster.posts
    posted =
        let x = some_item list number inside in
        let at = poster_at box (writer_source writer) (writer_history writer) (course.frame.number + 1) list closing.late number x x.poster inside in
        let one : posts_by mine.poster.controller (taker.posts ++ left) ≡ mine.poster.posts =
        subst (λ (p : PosterState). posts_by p.controller (taker.posts ++ left) ≡ p.posts) at (is.once number x.poster (omega (arith, inside, length-map list (λ (s : Steered). s.poster)))) in
        let own : mine.poster.controller ≡ number = ap (λ (p : PosterState). p.controller) known.0.poster in
        subst (λ (n : ℕ). posts_by n (taker.posts ++ left) ≡ mine.poster.posts) own one

    pub turns : TurnsToTheEnd parts number (frames_of parts all) (preferences_of (posts_by number (joined (lists_of all))))
    turns =
        let x = some_item list number inside in
        let at = reader_at box (writer_source writer) (writer_history writer) (course.frame.number + 1) list closing.late number x x.reader inside in
        let shown : IfSome mine.reader (λ r. StartsWith all (reader_seen r)) = subst (λ (o : Option FrameReader). IfSome o (λ r. StartsWith all (reader_seen r))) at (is.seen number x.reader (omega (arith, inside, length-map list (λ (s : Steered). s.reader)))) in
        let stands : Stands parts number mine.poster mine.reader (writer_history writer) mine.last = subst (λ (p : Parts). Stands p number mine.poster mine.reader (writer_history writer) mine.last) closing.under_way.running.published.scenario known.0.stands in
        late_turns parts number mine.poster mine.reader (writer_history writer) all mine.last (posts_by number (joined (lists_of all))) stands known.1 (step_to next.frame posts ∷ [], is.history) shown full
        (omega (arith, closing.last, closing.under_way.running.published.number)) (in_lists ∙ posted)

  last_number : (last_of (start_of parts) all).number ≡ next.frame.number
  last_number = ap (λ (f : Snapshot). f.number) (ap (λ (p : Parts). last_of (start_of p) all) (sym is.scenario) ∙ sym running.published.frame)

  live_text : IsLiveText parts (text_so_far parts all ++ end_line next.frame.number)
  live_text = record {
    lists = lists_of all;
    frames = frames_of parts all;
    run = (refl, follows parts (start_of parts) all legal.legal);
    transcript = whole_text parts all next.frame.number last_number;
    count = length-map all (λ (step : Step). step.posts) ∙ full;
    posts = lists;
    in_order = in_order;
    turns = λ number below some. turns number below;
  }

  written : Appends start.held now.held (text_so_far parts all)
  written = subst (λ (p : Parts). Appends start.held now.held (text_so_far p all)) is.scenario running.written

  -- the end line was written too
  pub lived : (end : SinkState) → Appends now.held end.held (end_line next.frame.number) → now.faults ≤ end.faults → WroteLive next.scenario start end
  lived end wrote later =
      subst (λ (p : Parts). WroteLive p start end) (sym is.scenario)
      (record {
        text = text_so_far parts all ++ end_line next.frame.number;
        live = live_text;
        written = Appends-trans start.held now.held end.held (text_so_far parts all) (end_line next.frame.number) written wrote;
        later = omega (arith, running.later, later);
      })

-- the end line was written in part
pub end_cut_off : (scenario : Parts) (history : List Step) (number : ℕ) (start now end : SinkState) → (last_of (start_of scenario) history).number ≡ number → IsHistory scenario history → AreLiveLists scenario 1 (lists_of history)
    → Appends start.held now.held (text_so_far scenario history) → start.faults ≤ now.faults → AppendsPrefix now.held end.held (end_line number) → now.faults ≤ end.faults → Rose now.faults end.faults
    → WroteLivePart scenario start end WriteFault
end_cut_off scenario history number start now end last legal lists written sofar wrote later rose =
    let count = length-map history (λ (step : Step). step.posts) in
    record {
      text = text_so_far scenario history ++ end_line number;
      live = record {
        lists = lists_of history;
        transcript = subst (λ (n : ℕ). IsTranscript scenario (lists_of history) (text_so_far scenario history ++ end_line n)) last (is_transcript scenario history legal.legal);
        count = omega (arith, count, legal.steps);
        posts = lists;
      };
      written = prefix_then start.held now.held end.held (text_so_far scenario history) (end_line number) written wrote;
      later = omega (arith, sofar, later);
      cause = λ same. rose_later start.faults now.faults end.faults sofar rose;
    }

pub running_cut_off : (start now end : SinkState) (writer : FrameWriter) (course : Course) → IsRunning start now writer course → AppendsPrefix now.held end.held (end_line course.frame.number) → now.faults ≤ end.faults → Rose now.faults end.faults
    → WroteLivePart course.scenario start end WriteFault
running_cut_off start now end writer course r wrote later rose =
    let last : (last_of (start_of course.scenario) (writer_history writer)).number ≡ course.frame.number = ap (λ (f : Snapshot). f.number) (sym r.published.frame) in
    end_cut_off course.scenario (writer_history writer) course.frame.number start now end last r.published.legal r.posts r.written r.later wrote later rose

-- the posts that are left are controllers'
pub left_listed : (box : BoxState) (scenario : Parts) (history : List Step) (number : ℕ) (taker : TakerState) (left posts : List Post) → IsTaking box scenario history taker → All (IsBoxPost taker.controllers taker.agents) (taker.posts ++ left)
    → posts ≡ script_of scenario number ++ left → IsLiveList scenario number posts
left_listed box scenario history number taker left posts taking each e =
    (left, e, subst (λ (x : ℕ × ℕ). All (IsBoxPost x.0 x.1) left) (λ i. (taking.controllers i, taking.agents i)) (back_of (IsBoxPost taker.controllers taker.agents) taker.posts left each))

-- ---- frame 0 alone

no_steps : (scenario : Parts) → IsHistory scenario []
no_steps scenario = record { legal = tt; steps = omega arith }

first_text : (scenario : Parts) (frame : Snapshot) → frame ≡ start_of scenario → scenario_text scenario ++ frame_text frame [] ≡ text_so_far scenario []
first_text scenario frame e = (λ i. scenario_text scenario ++ frame_text (e i) []) ∙ ap (λ t. scenario_text scenario ++ t) (sym (append-nil (frame_text (start_of scenario) [])))

-- a prefix of its text was written
pub begun : (scenario : Parts) (frame : Snapshot) (start now : SinkState) (fault : LiveFault) → frame ≡ start_of scenario → AppendsPrefix start.held now.held (scenario_text scenario ++ frame_text frame [])
    → start.faults ≤ now.faults → (fault ≡ WriteFault → Rose start.faults now.faults) → WroteLivePart scenario start now fault
begun scenario frame start now fault e written later cause =
    part_of scenario [] start now fault (no_steps scenario) tt (subst (AppendsPrefix start.held now.held) (first_text scenario frame e) written) later cause

-- all of it was written, and published
pub running_first : (start now : SinkState) (writer : FrameWriter) (course : Course) → course.frame ≡ start_of course.scenario → (writer_source writer).1 ≡ course.scenario → writer_history writer ≡ []
    → Appends start.held now.held (scenario_text course.scenario ++ frame_text course.frame []) → start.faults ≤ now.faults → IsRunning start now writer course
running_first start now writer course e source none written later =
    let scenario = course.scenario in
    let text = subst (Appends start.held now.held) (first_text scenario course.frame e) written in
    let number = ap (λ (f : Snapshot). f.number) e in
    let count = ap length none in
    record {
      published = record {
        scenario = source;
        frame = e ∙ ap (last_of (start_of scenario)) (sym none);
        number = omega (arith, number, count);
        legal = subst (IsHistory scenario) (sym none) (no_steps scenario);
      };
      posts = subst (λ (h : List Step). AreLiveLists scenario 1 (lists_of h)) (sym none) tt;
      written = subst (λ (h : List Step). Appends start.held now.held (text_so_far scenario h)) (sym none) text;
      later = later;
    }

module _ (scenario : Parts) (frame : Snapshot) (start now end : SinkState) (e : frame ≡ start_of scenario) (written : Appends start.held now.held (scenario_text scenario ++ frame_text frame [])) (before : start.faults ≤ now.faults) (later : now.faults ≤ end.faults) where
  first_written : Appends start.held now.held (text_so_far scenario [])
  first_written = subst (Appends start.held now.held) (first_text scenario frame e) written

  -- a run of no step
  pub lived_at_once : scenario.steps ≡ 0 → Appends now.held end.held (end_line 0) → WroteLive scenario start end
  lived_at_once none wrote = record {
    text = text_so_far scenario [] ++ end_line 0;
    live = record {
      lists = [];
      frames = frames_of scenario [];
      run = (refl, tt);
      transcript = whole_text scenario [] 0 refl;
      count = sym none;
      posts = tt;
      in_order = λ number below. refl;
      turns = λ number below some. absurd (omega (arith, none, some));
    };
    written = Appends-trans start.held now.held end.held (text_so_far scenario []) (end_line 0) first_written wrote;
    later = omega (arith, before, later);
  }

  pub cut_off_at_once : AppendsPrefix now.held end.held (end_line 0) → Rose now.faults end.faults → WroteLivePart scenario start end WriteFault
  cut_off_at_once wrote rose = end_cut_off scenario [] 0 start now end refl (no_steps scenario) tt first_written before wrote later rose
