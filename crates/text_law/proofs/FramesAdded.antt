-- The rows of frames are added one after another, and make up these frames.
use Rattle.std.proofs.Common.{◌≡◌, ◌∙◌, ◌<◌, ◌≤◌, ◌+◌, ◌-◌, ap, sym, refl, ℕ, zero, suc, true, false, List, [], ◌∷◌, ◌++◌, length, map, flat_map, append_assoc, length-append, subst, arith, Some, Ok}
use Rattle.std.specs.Prelude.{Result}
use Rattle.std.specs.List.{All}
use Rattle.std.proofs.lemmas.List.{append-nil}
use Rattle.std.proofs.lemmas.List.Elements.{All-head, All-tail}
use Rattle.csv.specs.Records.{field_at}
use Rattle.crowd_data.specs.declared.frame.Body.{Body}
use Rattle.crowd_data.specs.declared.post.Post.{Post}
use Rattle.crowd_data.specs.Scenario.{Parts}
use Rattle.crowd_data.specs.declared.limits.TheConstants.{MOST_AGENTS, MOST_STEPS}
use Rattle.frame_text.specs.Shape.{FramesSoFar, PostedFrame, all_frames, frames_from, is_end, is_whole, with_record}
use Rattle.frame_text.specs.Shaped.{AreBodies, AreFrames, IsPrintedBody, IsPrintedPost, IsPostedFrame}
use Rattle.frame_text.specs.Spelling.{last_behind}
use Rattle.scenario_read.specs.Records.{Record}
use Rattle.text_law.proofs.Comparisons.{is_at_most, is_equal, is_less, not_less, not_zero}
use Rattle.text_law.proofs.FrameLines.{body_is, body_row, end_number_is, end_row, frame_number_is, frame_row, take_is, take_row}

-- the rows of a frame
abbrev pub frame_rows : PostedFrame → List Record
frame_rows f = frame_row f.frame.number ∷ (map take_row f.posts ++ map body_row f.frame.bodies)

-- frames so far
abbrev so_far : List PostedFrame → ℕ → List Post → List Body → FramesSoFar
so_far whole begun posts bodies = record { whole = whole; begun = begun; posts = posts; bodies = bodies }

-- ---- no row of a frame is an end

frame_no_end : (s : Parts) (f : FramesSoFar) (n : ℕ) → is_end s f (frame_row n) ≡ false
unfolding is_end field_at
frame_no_end s f n = refl

post_no_end : (s : Parts) (f : FramesSoFar) (p : Post) → is_end s f (take_row p) ≡ false
unfolding is_end field_at
post_no_end s f p = refl

body_no_end : (s : Parts) (f : FramesSoFar) (b : Body) → is_end s f (body_row b) ≡ false
unfolding is_end field_at
body_no_end s f b = refl

module _ (s : Parts) (first : ℕ) (few : length s.agents ≤ MOST_AGENTS) (short : s.steps ≤ MOST_STEPS) where
  -- what the rows from some place behind the scenario's make of the frames so far
  abbrev Yields : FramesSoFar → List Record → Result (List PostedFrame) ℕ → Type 0
  Yields f rest w = (k : ℕ) → first ≤ k → frames_from s first f k rest ≡ w

  one_more : (f g : FramesSoFar) (row : Record) (rest : List Record) (w : Result (List PostedFrame) ℕ) → is_end s f row ≡ false → with_record s f row ≡ Some g
      → Yields g rest w → Yields f (row ∷ rest) w
  unfolding frames_from
  one_more f g row rest w e h more k le = rw (not_less k first le, e, h) (more (k + 1) (omega arith))

  -- the scenario's rows are passed over
  pub passed : (f : FramesSoFar) (front rest : List Record) (w : Result (List PostedFrame) ℕ) (k : ℕ) → k + length front ≡ first
      → Yields f rest w → frames_from s first f k (front ++ rest) ≡ w
  unfolding frames_from
  passed f [] rest w k e h = h k (omega arith)
  passed f (row ∷ front) rest w k e h = rw (is_less k first (omega arith)) (passed f front rest w (k + 1) (omega arith) h)

  -- ---- one row

  post_added : (whole : List PostedFrame) (n : ℕ) (done : List Post) (p : Post) → 1 < n → IsPrintedPost (length s.agents) p
      → with_record s (so_far whole n done []) (take_row p) ≡ Some (so_far whole n (done ++ p ∷ []) [])
  unfolding with_record field_at
  post_added whole n done p h fits = rw (take_is p (length s.agents) fits few, is_less 1 n h, is_less p.agent (length s.agents) fits.agent) refl

  body_added : (whole : List PostedFrame) (n : ℕ) (posts : List Post) (done : List Body) (b : Body) → 0 < n → b.agent ≡ length done → b.agent < length s.agents → IsPrintedBody b
      → with_record s (so_far whole n posts done) (body_row b) ≡ Some (so_far whole n posts (done ++ b ∷ []))
  unfolding with_record field_at
  body_added whole n posts done b h here below fits =
      rw (body_is b fits (omega arith), is_less 0 n h, is_equal b.agent (length done) here, is_less b.agent (length s.agents) below) refl

  frame_added : (f : FramesSoFar) (n : ℕ) → n ≡ f.begun → n ≤ s.steps → is_whole s f ≡ true → with_record s f (frame_row n) ≡ Some (so_far (all_frames f) (n + 1) [] [])
  unfolding with_record field_at
  frame_added f n e le whole = rw (frame_number_is n (omega arith), is_equal n f.begun e, is_at_most n s.steps le, whole) refl

  -- ---- rows of one kind

  posts_added : (ps done : List Post) (whole : List PostedFrame) (n : ℕ) (rest : List Record) (w : Result (List PostedFrame) ℕ) → (0 < length ps → 1 < n)
      → All (IsPrintedPost (length s.agents)) ps → Yields (so_far whole n (done ++ ps) []) rest w → Yields (so_far whole n done []) (map take_row ps ++ rest) w
  posts_added [] done whole n rest w later each more = subst (λ (xs : List Post). Yields (so_far whole n xs []) rest w) (append-nil done) more
  posts_added (p ∷ ps) done whole n rest w later each more =
      let h = later (omega arith) in
      one_more (so_far whole n done []) (so_far whole n (done ++ p ∷ []) []) (take_row p) (map take_row ps ++ rest) w (post_no_end s _ p)
      (post_added whole n done p h (All-head (IsPrintedPost (length s.agents)) p ps each))
      (posts_added ps (done ++ p ∷ []) whole n rest w (λ _. h) (All-tail (IsPrintedPost (length s.agents)) p ps each)
      (subst (λ (xs : List Post). Yields (so_far whole n xs []) rest w) (sym (append_assoc done (p ∷ []) ps)) more))

  bodies_added : (bs done : List Body) (whole : List PostedFrame) (n : ℕ) (posts : List Post) (rest : List Record) (w : Result (List PostedFrame) ℕ) → 0 < n
      → AreBodies (length done) bs → length done + length bs ≤ length s.agents → Yields (so_far whole n posts (done ++ bs)) rest w
      → Yields (so_far whole n posts done) (map body_row bs ++ rest) w
  bodies_added [] done whole n posts rest w h each room more = subst (λ (xs : List Body). Yields (so_far whole n posts xs) rest w) (append-nil done) more
  bodies_added (b ∷ bs) done whole n posts rest w h each room more =
      let size : length (done ++ b ∷ []) ≡ length done + 1 = length-append done (b ∷ []) in
      one_more (so_far whole n posts done) (so_far whole n posts (done ++ b ∷ [])) (body_row b) (map body_row bs ++ rest) w (body_no_end s _ b)
      (body_added whole n posts done b h each.0 (let here = each.0 in omega arith) each.1)
      (bodies_added bs (done ++ b ∷ []) whole n posts rest w h (subst (λ (m : ℕ). AreBodies m bs) (sym size) each.2) (omega arith)
      (subst (λ (xs : List Body). Yields (so_far whole n posts xs) rest w) (sym (append_assoc done (b ∷ []) bs)) more))

  -- ---- one frame, and all frames

  later_posts : (n : ℕ) (ps : List Post) → (n ≡ 0 → ps ≡ []) → 0 < length ps → 1 < n + 1
  later_posts zero ps none some = let e = ap (λ (xs : List Post). length xs) (none refl) in absurd (omega (arith, e))
  later_posts (suc n) ps none some = omega arith

  posted_added : (f : FramesSoFar) (p : PostedFrame) (rest : List Record) (w : Result (List PostedFrame) ℕ) → is_whole s f ≡ true → f.begun ≤ s.steps → IsPostedFrame s f.begun p
      → Yields (so_far (all_frames f) (f.begun + 1) p.posts p.frame.bodies) rest w → Yields f (frame_rows p ++ rest) w
  posted_added f p rest w whole le fits more =
      let bodies = bodies_added p.frame.bodies [] (all_frames f) (f.begun + 1) p.posts rest w (omega arith) fits.bodies (omega (arith, fits.count)) more in
      let posts = posts_added p.posts [] (all_frames f) (f.begun + 1) (map body_row p.frame.bodies ++ rest) w (later_posts f.begun p.posts fits.none_at_start) fits.posts bodies in
      one_more f (so_far (all_frames f) (f.begun + 1) [] []) (frame_row p.frame.number) ((map take_row p.posts ++ map body_row p.frame.bodies) ++ rest) w (frame_no_end s f p.frame.number)
      (subst (λ (m : ℕ). with_record s f (frame_row m) ≡ Some (so_far (all_frames f) (f.begun + 1) [] [])) (sym fits.number) (frame_added f f.begun refl le whole))
      (subst (λ (rows : List Record). Yields (so_far (all_frames f) (f.begun + 1) [] []) rows w) (sym (append_assoc (map take_row p.posts) (map body_row p.frame.bodies) rest)) posts)

  -- the frame that was read is the frame
  after_frame : (whole : List PostedFrame) (p : PostedFrame) (n : ℕ) → p.frame.number ≡ n → all_frames (so_far whole (n + 1) p.posts p.frame.bodies) ≡ whole ++ p ∷ []
  after_frame whole p n e =
      rw (not_zero n) (ap (λ (m : ℕ). whole ++ record { posts = p.posts; frame = record { number = m; bodies = p.frame.bodies } } ∷ []) (let same = e in omega arith))

  after_whole : (whole : List PostedFrame) (p : PostedFrame) (n : ℕ) → length p.frame.bodies ≡ length s.agents → is_whole s (so_far whole (n + 1) p.posts p.frame.bodies) ≡ true
  after_whole whole p n e = rw (not_zero n, is_equal (length p.frame.bodies) (length s.agents) e) refl

  end_added : (f : FramesSoFar) (last : ℕ) (k : ℕ) → first ≤ k → is_whole s f ≡ true → last + 1 ≡ f.begun → last ≤ MOST_STEPS → frames_from s first f k (end_row last ∷ []) ≡ Ok (all_frames f)
  unfolding frames_from is_end field_at
  end_added f last k le whole e small = rw (not_less k first le, end_number_is last small, is_equal (last + 1) f.begun e, whole) refl

  pub frames_added : (frames : List PostedFrame) (f : FramesSoFar) (last : ℕ) → is_whole s f ≡ true → AreFrames s f.begun frames → 0 < f.begun + length frames
      → last ≡ last_behind (f.begun - 1) frames → last ≤ MOST_STEPS → Yields f (flat_map frame_rows frames ++ end_row last ∷ []) (Ok (all_frames f ++ frames))
  frames_added [] f last whole each some e small = λ k le. end_added f last k le whole (omega arith) small ∙ ap Ok (sym (append-nil (all_frames f)))
  frames_added (p ∷ rest) f last whole each some e small =
      let fits = each.1 in
      let g = so_far (all_frames f) (f.begun + 1) p.posts p.frame.bodies in
      let shown = after_frame (all_frames f) p f.begun fits.number in
      let number : f.begun + 1 - 1 ≡ p.frame.number = (let same = fits.number in omega arith) in
      let more = frames_added rest g last (after_whole (all_frames f) p f.begun fits.count) each.2 (omega arith) (e ∙ ap (λ (m : ℕ). last_behind m rest) (sym number)) small in
      let result : all_frames g ++ rest ≡ all_frames f ++ p ∷ rest = ap (λ (xs : List PostedFrame). xs ++ rest) shown ∙ append_assoc (all_frames f) (p ∷ []) rest in
      subst (λ (rows : List Record). Yields f rows (Ok (all_frames f ++ p ∷ rest))) (sym (append_assoc (frame_rows p) (flat_map frame_rows rest) (end_row last ∷ [])))
      (posted_added f p (flat_map frame_rows rest ++ end_row last ∷ []) (Ok (all_frames f ++ p ∷ rest)) whole each.0 fits
      (subst (λ (xs : List PostedFrame). Yields g (flat_map frame_rows rest ++ end_row last ∷ []) (Ok xs)) result more))

  -- the last frame's number is at most the steps
  pub last_small : (frames : List PostedFrame) (n m : ℕ) → m ≤ s.steps → AreFrames s n frames → last_behind m frames ≤ s.steps
  last_small [] n m h each = h
  last_small (p ∷ rest) n m h each = last_small rest (n + 1) p.frame.number (let same = each.1.number in let le = each.0 in omega arith) each.2
