-- What was written when a live run went on, and when it ended early.
use Rattle.std.proofs.Common.{◌≡◌, ◌∙◌, ◌+◌, ◌≤◌, ℕ, List, [], ◌∷◌, ◌++◌, length, arith, ap, sym, subst, length-append}
use Rattle.std.proofs.lemmas.List.{map-append, length-map}
use Rattle.std.specs.Io.KnownBytes.{Appends}
use Rattle.std.proofs.KnownBytes.{Appends-trans}
use Rattle.outside_io.specs.Causes.{AppendsPrefix, Rose}
use Rattle.outside_io.proofs.WroteLemmas.{prefix_longer, prefix_then, prefix_whole}
use Rattle.crowd_data.specs.declared.post.Post.{Post}
use Rattle.crowd_data.specs.Present.{IsPresent}
use Rattle.crowd_data.specs.Run.{IsNext, Snapshot, start_of}
use Rattle.crowd_data.specs.Scenario.{IsValid, Parts}
use Rattle.frame_step.specs.Present.{Course}
use Rattle.frame_text.specs.Lines.{end_line}
use Rattle.frame_text.specs.Transcript.{frame_text}
use Rattle.published_frames.specs.declared.entry.Step.{Step}
use Rattle.published_frames.specs.declared.writer.FrameWriter.{FrameWriter}
use Rattle.published_frames.specs.History.{AreInRange, IsHistory, last_of}
use Rattle.published_frames.specs.Names.{writer_history, writer_source}
use Rattle.published_frames.proofs.Histories.{continues_more, last_of-append}
use Rattle.outside_io.specs.Sinks.{SinkState}
use Rattle.live_session.specs.LiveText.{AreLiveLists, IsLiveList, WroteLivePart}
use Rattle.live_session.specs.Running.{IsRunning, lists_of, step_to, text_so_far}
use Rattle.live_session.specs.declared.fault.LiveFault.{LiveFault}
use Rattle.live_session.specs.declared.fault.LiveFault.TheVariants.{WriteFault, NoMemory}
use Rattle.live_session.proofs.Listed.{listed_more}
use Rattle.live_session.proofs.Texts.{is_transcript, text_so_far-append}

-- ---- faults of the sink

pub rose_later : (a b c : ℕ) → a ≤ b → Rose b c → Rose a c
rose_later a b c h r = omega arith

-- ---- bodies stay in range

pub in_range : (scenario : Parts) (frame : Snapshot) → IsValid scenario → IsPresent scenario frame → AreInRange frame.bodies
in_range scenario frame valid present k d h = let body = present.bodies k d h in let far = present.number in let few = valid.steps in (omega (arith, body.pos.0), omega (arith, body.pos.1))

-- ---- one frame more

-- the history with one step more
record IsFollowedBy (scenario : Parts) (history : List Step) (frame next : Snapshot) (posts : List Post) : Type 0 where
  legal : IsHistory scenario history
  lists : AreLiveLists scenario 1 (lists_of history)
  present : frame ≡ last_of (start_of scenario) history
  number : frame.number ≡ length history
  step : IsNext scenario frame posts next
  in_range : AreInRange next.bodies
  list : IsLiveList scenario (frame.number + 1) posts

module _ (scenario : Parts) (history : List Step) (frame next : Snapshot) (posts : List Post) (by : IsFollowedBy scenario history frame next posts) where
  legal_more : IsHistory scenario (history ++ step_to next posts ∷ [])
  legal_more =
      let count = length-append history (step_to next posts ∷ []) in
      record {
        legal = continues_more scenario (start_of scenario) history (step_to next posts) by.legal.legal (subst (λ f. IsNext scenario f posts next) by.present by.step) by.in_range;
        steps = omega (arith, by.step.below, by.number);
      }

  lists_more : AreLiveLists scenario 1 (lists_of (history ++ step_to next posts ∷ []))
  lists_more =
      subst (AreLiveLists scenario 1) (sym (map-append (λ (step : Step). step.posts) history (step_to next posts ∷ [])))
      (listed_more scenario 1 (frame.number + 1) (lists_of history) posts (omega (arith, length-map history (λ (step : Step). step.posts), by.number)) by.lists by.list)

-- a prefix of the text of a history, with the next bytes
pub part_of : (scenario : Parts) (history : List Step) (old new : SinkState) (fault : LiveFault) → IsHistory scenario history → AreLiveLists scenario 1 (lists_of history)
    → AppendsPrefix old.held new.held (text_so_far scenario history) → old.faults ≤ new.faults → (fault ≡ WriteFault → Rose old.faults new.faults) → WroteLivePart scenario old new fault
part_of scenario history old new fault legal lists written later cause =
    let last = end_line (last_of (start_of scenario) history).number in
    let count = length-map history (λ (step : Step). step.posts) in
    record {
      text = text_so_far scenario history ++ last;
      live = record {
        lists = lists_of history;
        transcript = is_transcript scenario history legal.legal;
        count = omega (arith, count, legal.steps);
        posts = lists;
      };
      written = prefix_longer old.held new.held (text_so_far scenario history) last written;
      later = later;
      cause = cause;
    }

-- the run is as it was, and it ended for another reason than the sink
pub ended_here : (start now : SinkState) (writer : FrameWriter) (course : Course) → IsRunning start now writer course → WroteLivePart course.scenario start now NoMemory
ended_here start now writer course r =
    part_of course.scenario (writer_history writer) start now NoMemory r.published.legal r.posts (prefix_whole start.held now.held (text_so_far course.scenario (writer_history writer)) r.written) r.later (λ e. absurd cc)

-- the frame was made, and a prefix of its text was written
pub broken_off : (start before now : SinkState) (writer : FrameWriter) (course : Course) (next : Snapshot) (posts : List Post) (fault : LiveFault) → IsRunning start before writer course
    → IsNext course.scenario course.frame posts next → AreInRange next.bodies → IsLiveList course.scenario (course.frame.number + 1) posts
    → AppendsPrefix before.held now.held (frame_text next posts) → before.faults ≤ now.faults → (fault ≡ WriteFault → Rose before.faults now.faults)
    → WroteLivePart course.scenario start now fault
broken_off start before now writer course next posts fault r step near list written later cause =
    let history = writer_history writer in
    let scenario = course.scenario in
    let by : IsFollowedBy scenario history course.frame next posts = record { legal = r.published.legal; lists = r.posts; present = r.published.frame; number = r.published.number; step = step; in_range = near; list = list } in
    let text = text_so_far-append scenario history (step_to next posts) in
    part_of scenario (history ++ step_to next posts ∷ []) start now fault (legal_more scenario history course.frame next posts by) (lists_more scenario history course.frame next posts by)
    (subst (AppendsPrefix start.held now.held) (sym text) (prefix_then start.held before.held now.held (text_so_far scenario history) (frame_text next posts) r.written written))
    (omega (arith, r.later, later)) (λ e. rose_later start.faults before.faults now.faults r.later (cause e))

-- the frame was made, written and published
pub running_next : (start before now : SinkState) (writer after : FrameWriter) (course next : Course) (posts : List Post) → IsRunning start before writer course
    → IsNext course.scenario course.frame posts next.frame → AreInRange next.frame.bodies → IsLiveList course.scenario (course.frame.number + 1) posts
    → Appends before.held now.held (frame_text next.frame posts) → before.faults ≤ now.faults
    → next.scenario ≡ course.scenario → writer_source after ≡ writer_source writer → writer_history after ≡ writer_history writer ++ step_to next.frame posts ∷ [] → IsRunning start now after next
running_next start before now writer after course next posts r step near list written later same source history =
    let old = writer_history writer in
    let scenario = course.scenario in
    let by : IsFollowedBy scenario old course.frame next.frame posts = record { legal = r.published.legal; lists = r.posts; present = r.published.frame; number = r.published.number; step = step; in_range = near; list = list } in
    let more = step_to next.frame posts in
    let count = length-append old (more ∷ []) in
    let text = text_so_far-append scenario old more in
    let legal : IsHistory scenario (old ++ more ∷ []) = legal_more scenario old course.frame next.frame posts by in
    let lists : AreLiveLists scenario 1 (lists_of (old ++ more ∷ [])) = lists_more scenario old course.frame next.frame posts by in
    let whole : Appends start.held now.held (text_so_far scenario (old ++ more ∷ [])) = subst (Appends start.held now.held) (sym text) (Appends-trans start.held before.held now.held (text_so_far scenario old) (frame_text next.frame posts) r.written written) in
    let here : next.frame ≡ last_of (start_of scenario) (old ++ more ∷ []) = sym (last_of-append (start_of scenario) old more) in
    record {
      published = record {
        scenario = ap (λ s. s.1) source ∙ (r.published.scenario ∙ sym same);
        frame = here ∙ (λ i. last_of (start_of (sym same i)) (sym history i));
        number = step.number ∙ (omega (arith, r.published.number, count, ap length history));
        legal = subst (λ (x : Parts × List Step). IsHistory x.0 x.1) (λ i. (sym same i, sym history i)) legal;
      };
      posts = subst (λ (x : Parts × List Step). AreLiveLists x.0 1 (lists_of x.1)) (λ i. (sym same i, sym history i)) lists;
      written = subst (λ (x : Parts × List Step). Appends start.held now.held (text_so_far x.0 x.1)) (λ i. (sym same i, sym history i)) whole;
      later = omega (arith, r.later, later);
    }
