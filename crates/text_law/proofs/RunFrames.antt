-- The frames of a run are of a transcript's shape.
use Rattle.std.proofs.Common.{◌≡◌, ◌<◌, ◌≤◌, ◌+◌, ℕ, zero, suc, List, [], ◌∷◌, length, refl, sym, ap, subst, arith}
use Rattle.std.specs.List.{All}
use Rattle.std.proofs.lemmas.List.Elements.{All-cons, All-from_get_or, All-head, All-nil, All-tail, All-weaker}
use Rattle.crowd_data.specs.declared.agent.Agent.{Agent}
use Rattle.crowd_data.specs.declared.frame.Body.{Body}
use Rattle.crowd_data.specs.declared.post.Post.{Post}
use Rattle.crowd_data.specs.Limits.{IsPost, IsVelocity}
use Rattle.crowd_data.specs.Present.{IsBody, IsPresent}
use Rattle.crowd_data.specs.Run.{Follow, IsNext, IsRun, Snapshot, after_posts, body_at, no_body, start_of, starting_bodies, starting_body}
use Rattle.crowd_data.specs.Scenario.{IsValid, Parts}
use Rattle.crowd_data.proofs.Frames.{posted_present, start_present}
use Rattle.crowd_data.specs.declared.limits.TheConstants.{MOST_STEPS}
use Rattle.frame_text.specs.declared.limits.TheConstants.{GREATEST_RELIEF}
use Rattle.frame_text.specs.Shape.{PostedFrame}
use Rattle.frame_text.specs.Shaped.{AreBodies, AreFrames, IsPostedFrame, IsPrintedPost, IsShaped}
use Rattle.agent_step.proofs.ReliefLimit.{advised_relief}
use Rattle.run_law.proofs.PresentNext.{step_present}

-- the frames of a run, each with its posts
abbrev pub posted_frames : List (List Post) → List Snapshot → List PostedFrame
posted_frames lists [] = []
posted_frames [] (frame ∷ rest) = []
posted_frames (posts ∷ lists) (frame ∷ rest) = record { posts = posts; frame = frame } ∷ posted_frames lists rest

-- ---- bodies

abbrev IsLittle : Body → Type 0
IsLittle body = body.relief ≤ GREATEST_RELIEF

starting_little : (number : ℕ) (agents : List Agent) → All IsLittle (starting_bodies number agents)
starting_little number [] = All-nil IsLittle
starting_little number (agent ∷ agents) =
    All-cons IsLittle (starting_body number agent) (starting_bodies (number + 1) agents) (omega arith) (starting_little (number + 1) agents)

-- a frame whose numbers can be printed
record IsPrintable (s : Parts) (frame : Snapshot) : Type 0 where
  present : IsPresent s frame
  little : All IsLittle frame.bodies

bodies_from : (number who : ℕ) (bodies : List Body) → number ≤ MOST_STEPS → ((k : ℕ) → k < length bodies → (body_at bodies k).agent ≡ who + k) → All (IsBody number) bodies → All IsLittle bodies
    → AreBodies who bodies
bodies_from number who [] le numbered all little = tt
bodies_from number who (body ∷ bodies) le numbered all little =
    let one = All-head (IsBody number) body bodies all in
    let relief : body.relief ≤ GREATEST_RELIEF = All-head IsLittle body bodies little in
    let first = numbered zero (omega arith) in (
      omega (arith, first),
      record { pos = (omega (arith, one.pos), omega (arith, one.pos)); vel = one.vel; pref = one.pref; relief = relief },
      bodies_from number (who + 1) bodies le (λ k h. let e = numbered (suc k) (omega (arith, h)) in omega (arith, e)) (All-tail (IsBody number) body bodies all) (All-tail IsLittle body bodies little),
    )

-- ---- frames

module _ (s : Parts) (valid : IsValid s) where
  as_posts : (posts : List Post) → All (IsPrintedPost (length s.agents)) posts → All (IsPost (length s.agents)) posts
  as_posts posts all = All-weaker (IsPrintedPost (length s.agents)) (IsPost (length s.agents)) (λ post h. record { agent = h.agent; vel = h.vel }) posts all

  start_printable : IsPrintable s (start_of s)
  start_printable = record { present = start_present s valid; little = starting_little 0 s.agents }

  next_printable : (frame next : Snapshot) (posts : List Post) → IsPrintable s frame → All (IsPost (length s.agents)) posts → IsNext s frame posts next → IsPrintable s next
  next_printable frame next posts printable sound step =
      let posted = posted_present s frame posts printable.present sound in
      let slow : All (λ (body : Body). IsVelocity body.vel) (after_posts posts frame.bodies) = λ k d l. (posted.bodies k d l).vel in
      record {
        present = step_present s valid frame next posts printable.present sound step;
        little =
            All-from_get_or IsLittle next.bodies no_body
            (λ who h.
            let below : who < length s.agents = omega (arith, h, step.bodies, printable.present.full) in
            advised_relief s s.agents (after_posts posts frame.bodies) (record { count = posted.full; sound = valid.agents; slow = slow }) who below _ _ _
            (step.moved who (omega (arith, h, step.bodies))).advice);
      }

  frame_fits : (frame : Snapshot) (posts : List Post) → IsPrintable s frame → All (IsPrintedPost (length s.agents)) posts → (frame.number ≡ 0 → posts ≡ []) → IsPostedFrame s frame.number (record { posts = posts; frame = frame })
  frame_fits frame posts printable sound none =
      let present = printable.present in
      record {
        number = refl;
        posts = sound;
        none_at_start = none;
        count = present.full;
        bodies = bodies_from frame.number 0 frame.bodies (omega (arith, present.number, valid.steps)) (λ k h. let e = present.numbered k h in omega (arith, e)) present.bodies printable.little;
      }

  frames_fit : (frame : Snapshot) (posts : List Post) (lists : List (List Post)) (rest : List Snapshot) → IsPrintable s frame → All (IsPrintedPost (length s.agents)) posts
      → (frame.number ≡ 0 → posts ≡ []) → All (All (IsPrintedPost (length s.agents))) lists → Follow s frame lists rest → AreFrames s frame.number (posted_frames (posts ∷ lists) (frame ∷ rest))
  frames_fit frame posts [] [] printable sound none all follow = (printable.present.number, frame_fits frame posts printable sound none, tt)
  frames_fit frame posts [] (next ∷ rest) printable sound none all follow = absurd follow
  frames_fit frame posts (list ∷ lists) [] printable sound none all follow = absurd follow
  frames_fit frame posts (list ∷ lists) (next ∷ rest) printable sound none all follow =
      let P = All (IsPrintedPost (length s.agents)) in
      let here = All-head P list lists all in
      let step = follow.0 in
      let more = frames_fit next list lists rest (next_printable frame next list printable (as_posts list here) step) here (λ e. absurd (omega (arith, e, step.number))) (All-tail P list lists all) follow.1 in
      (printable.present.number, frame_fits frame posts printable sound none, subst (λ n. AreFrames s n (posted_frames (list ∷ lists) (next ∷ rest))) step.number more)

  pub run_shaped : (lists : List (List Post)) (frames : List Snapshot) → All (All (IsPrintedPost (length s.agents))) lists → IsRun s lists frames → IsShaped s (posted_frames ([] ∷ lists) frames)
  run_shaped lists [] all run = absurd run
  run_shaped lists (first ∷ rest) all run =
      let number : first.number ≡ 0 = ap (λ (f : Snapshot). f.number) run.0 in
      let fit = frames_fit first [] lists rest (subst (IsPrintable s) (sym run.0) start_printable) (All-nil (IsPrintedPost (length s.agents))) (λ e. refl) all run.1 in
      record { some = omega arith; each = subst (λ n. AreFrames s n (posted_frames ([] ∷ lists) (first ∷ rest))) number fit }
