-- Frames that the fold over the records accepts are of a transcript's shape.
use Rattle.std.proofs.Common.{◌≡◌, ◌<◌, ◌≤◌, ◌+◌, ◌-◌, ◌&&◌, inl, inr, refl, ℕ, Bool, true, false, cond, List, [], ◌∷◌, ◌++◌, length, length-append, subst, arith, Some, None, Ok, Err, ℤ, pos, neg_ℤ, ◌≤ℤ◌, int_le, unsigned_abs}
use Rattle.std.specs.Prelude.{◌==◌, nat_lt, nat_le, Result, codes}
use Rattle.std.specs.List.{All}
use Rattle.std.specs.declared.option.Option.{Option}
use Rattle.std.proofs.lemmas.Bool.Decides.{nat_tests}
use Rattle.std.proofs.lemmas.Int.{ints}
use Rattle.std.proofs.lemmas.List.Elements.{All-nil, All-push}
use Rattle.std.proofs.lemmas.Option.{same_Some}
use Rattle.exact_algebra.proofs.Choices.{chosen}
use Rattle.exact_algebra.proofs.Tests.{both_of}
use Rattle.fixed_vec.specs.declared.vector.V2.{V2}
use Rattle.crowd_data.specs.declared.frame.Body.{Body}
use Rattle.crowd_data.specs.declared.post.Post.{Post}
use Rattle.crowd_data.specs.Limits.{IsVelocity, IsWithin}
use Rattle.crowd_data.specs.Scenario.{Parts}
use Rattle.crowd_data.specs.declared.limits.TheConstants.{GREATEST_AGENT, GREATEST_SPEED}
use Rattle.crowd_data.specs.declared.post.TheConstants.{SCRIPT}
use Rattle.scenario_read.specs.declared.cause.Cause.{Cause}
use Rattle.scenario_read.specs.Fields.{field_text}
use Rattle.scenario_read.specs.Numbers.{number_of}
use Rattle.scenario_read.specs.Fields.{is_kind}
use Rattle.scenario_read.specs.Values.{and_then, count_in, number_in, vector_in, within}
use Rattle.scenario_read.specs.Records.{Record}
use Rattle.scenario_read.proofs.KnownParts.{equal_is}
use Rattle.frame_text.specs.declared.limits.TheConstants.{GREATEST_PLACE, GREATEST_RELIEF, GREATEST_SEQ}
use Rattle.frame_text.specs.Shape.{FramesSoFar, PostedFrame, all_frames, body_of_row, closed, ends, frames_from, is_end, is_whole, last_frame, mark_of_word, none_begun, number_of_row, or_stop, post_of_row, with_body, with_frame, with_ok, with_post, with_record, with_some}
use Rattle.frame_text.specs.Shaped.{AreBodies, AreFrames, IsPrintedBody, IsPrintedPost, IsPostedFrame, IsShaped}

-- ---- what came before an answer

ok_then : {A B : Type 0} (r : Result A Cause) (more : A → Option B) (b : B) → with_ok r more ≡ Some b → (a : A) × (r ≡ Ok a) × (more a ≡ Some b)
ok_then (Ok a) more b e = (a, refl, e)
ok_then (Err c) more b e = cc e

some_then : {A B : Type 0} (o : Option A) (more : A → Option B) (b : B) → with_some o more ≡ Some b → (a : A) × (o ≡ Some a) × (more a ≡ Some b)
some_then (Some a) more b e = (a, refl, e)
some_then None more b e = cc e

and_ok : {A B : Type 0} (r : Result A Cause) (more : A → Result B Cause) (b : B) → and_then r more ≡ Ok b → (a : A) × (r ≡ Ok a) × (more a ≡ Ok b)
and_ok (Ok a) more b e = (a, refl, e)
and_ok (Err c) more b e = cc e

if_then : {A : Type 0} (t : Bool) (x : Option A) (y : A) → cond t x None ≡ Some y → (t ≡ true) × (x ≡ Some y)
if_then true x y e = (refl, e)
if_then false x y e = cc e

ok_is : {A : Type 0} (x y : A) → ◌≡◌ {A = Result A Cause} (Ok x) (Ok y) → x ≡ y
ok_is x y e = cc e

-- ---- the limits of fields

tested : (low high z : ℤ) → (int_le low z && int_le z high) ≡ true → (low ≤ℤ z) × (z ≤ℤ high)
tested low high z e = let h = both_of (int_le low z) (int_le z high) e in (grind (arith, ints), grind (arith, ints))

within_by : (k : ℕ) (low high y z : ℤ) (t : Bool) → (int_le low y && int_le y high) ≡ t → within k low high (Some y) ≡ Ok z → (low ≤ℤ z) × (z ≤ℤ high)
within_by k low high y z true e h = let same = ok_is y z (rw e at h) in subst (λ (x : ℤ). (low ≤ℤ x) × (x ≤ℤ high)) same (tested low high y e)
within_by k low high y z false e h = let bad = rw e at h in cc bad

within_is : (k : ℕ) (low high : ℤ) (o : Option ℤ) (z : ℤ) → within k low high o ≡ Ok z → (low ≤ℤ z) × (z ≤ℤ high)
within_is k low high None z h = cc h
within_is k low high (Some y) z h = within_by k low high y z (int_le low y && int_le y high) refl h

count_most : (row : Record) (k most n : ℕ) → count_in row k 0 most ≡ Ok n → n ≤ most
unfolding count_in
count_most row k most n e =
    let (z, is, last) = and_ok (number_in row k (pos 0) (pos most)) (λ z. Ok (unsigned_abs z)) n e in
    let h = within_is k (pos 0) (pos most) (number_of (field_text row k)) z is in
    let same = ok_is (unsigned_abs z) n last in omega (arith, ints, h.0, h.1, same)

vector_most : (row : Record) (k l most : ℕ) (v : V2) → vector_in row k l most ≡ Ok v → IsWithin v most
unfolding vector_in
vector_most row k l most v e =
    let (x, x_is, e1) = and_ok (number_in row k (neg_ℤ (pos most)) (pos most)) _ v e in
    let (y, y_is, e2) = and_ok (number_in row l (neg_ℤ (pos most)) (pos most)) _ v e1 in
    let h = within_is k (neg_ℤ (pos most)) (pos most) (number_of (field_text row k)) x x_is in
    let g = within_is l (neg_ℤ (pos most)) (pos most) (number_of (field_text row l)) y y_is in
    subst (λ (w : V2). IsWithin w most) (ok_is _ v e2) (omega (arith, ints, h.0, h.1), omega (arith, ints, g.0, g.1))

-- ---- the limits of a post and of a body

post_limits : (row : Record) (p : Post) (agents : ℕ) → post_of_row row ≡ Some p → p.agent < agents → IsPrintedPost agents p
unfolding post_of_row
post_limits row p agents e below =
    let t = if_then (length row == 6) _ p e in
    let (controller, is1, e1) = ok_then (count_in row 1 0 SCRIPT) _ p t.1 in
    let (seq, is2, e2) = ok_then (count_in row 2 0 GREATEST_SEQ) _ p e1 in
    let (agent, is3, e3) = ok_then (count_in row 3 0 GREATEST_AGENT) _ p e2 in
    let (vel, is4, e4) = ok_then (vector_in row 4 5 GREATEST_SPEED) _ p e3 in
    let same = same_Some _ p e4 in
    record {
      controller = subst (λ (q : Post). q.controller ≤ SCRIPT) same (count_most row 1 SCRIPT controller is1);
      seq = subst (λ (q : Post). q.seq ≤ GREATEST_SEQ) same (count_most row 2 GREATEST_SEQ seq is2);
      agent = below;
      vel = subst (λ (q : Post). IsVelocity q.vel) same (vector_most row 4 5 GREATEST_SPEED vel is4);
    }

body_limits : (row : Record) (b : Body) → body_of_row row ≡ Some b → IsPrintedBody b
unfolding body_of_row
body_limits row b e =
    let t = if_then (length row == 10) _ b e in
    let (agent, is1, e1) = ok_then (count_in row 1 0 GREATEST_AGENT) _ b t.1 in
    let (at, is2, e2) = ok_then (vector_in row 2 3 GREATEST_PLACE) _ b e1 in
    let (vel, is3, e3) = ok_then (vector_in row 4 5 GREATEST_SPEED) _ b e2 in
    let (pref, is4, e4) = ok_then (vector_in row 6 7 GREATEST_SPEED) _ b e3 in
    let (mark, is5, e5) = some_then (mark_of_word (field_text row 8)) _ b e4 in
    let (relief, is6, e6) = ok_then (count_in row 9 0 GREATEST_RELIEF) _ b e5 in
    subst IsPrintedBody (same_Some _ b e6)
    (record { pos = vector_most row 2 3 GREATEST_PLACE at is2; vel = vector_most row 4 5 GREATEST_SPEED vel is3; pref = vector_most row 6 7 GREATEST_SPEED pref is4; relief = count_most row 9 GREATEST_RELIEF relief is6 })

-- ---- the frames so far

record IsSoFar (s : Parts) (f : FramesSoFar) : Type 0 where
  frames : AreFrames s 0 f.whole
  count : length f.whole ≡ f.begun - 1
  steps : f.begun ≤ s.steps + 1
  posts : All (IsPrintedPost (length s.agents)) f.posts
  none : f.begun ≤ 1 → f.posts ≡ []
  bodies : AreBodies 0 f.bodies

bodies_more : (who : ℕ) (bs : List Body) (b : Body) → AreBodies who bs → b.agent ≡ who + length bs → IsPrintedBody b → AreBodies who (bs ++ b ∷ [])
bodies_more who [] b each here fits = (omega arith, fits, tt)
bodies_more who (x ∷ bs) b each here fits = (each.0, each.1, bodies_more (who + 1) bs b each.2 (omega arith) fits)

some_is_there : (a : ℕ) → (a == 0) ≡ false → 0 < a
some_is_there a h = grind (arith, nat_tests)

less_is : (a b : ℕ) → nat_lt a b ≡ true → a < b
less_is a b h = grind (arith, nat_tests)

at_most_is : (a b : ℕ) → nat_le a b ≡ true → a ≤ b
at_most_is a b h = grind (arith, nat_tests)

module _ (s : Parts) where
  frames_more : (n : ℕ) (fs : List PostedFrame) (p : PostedFrame) → AreFrames s n fs → n + length fs ≤ s.steps → IsPostedFrame s (n + length fs) p → AreFrames s n (fs ++ p ∷ [])
  frames_more n [] p each le fits = (omega arith, subst (λ (m : ℕ). IsPostedFrame s m p) (omega arith) fits, tt)
  frames_more n (x ∷ fs) p each le fits = (each.0, each.1, frames_more (n + 1) fs p each.2 (omega arith) (subst (λ (m : ℕ). IsPostedFrame s m p) (omega arith) fits))

  last_fits : (f : FramesSoFar) → IsSoFar s f → 0 < f.begun → length f.bodies ≡ length s.agents → IsPostedFrame s (f.begun - 1) (last_frame f)
  last_fits f h some e = record { number = refl; posts = h.posts; none_at_start = λ z. h.none (omega (arith, z)); count = e; bodies = h.bodies }

  all_by : (f : FramesSoFar) (b : Bool) → (f.begun == 0) ≡ b → IsSoFar s f → is_whole s f ≡ true → AreFrames s 0 (all_frames f) × (length (all_frames f) ≡ f.begun)
  all_by f true e h whole = let zero_is = equal_is f.begun 0 e in let count = h.count in rw e (h.frames, omega arith)
  all_by f false e h whole =
      let some = some_is_there f.begun e in
      let count = h.count in
      let steps = h.steps in
      let full = equal_is (length f.bodies) (length s.agents) (rw e at whole) in
      rw e (
        frames_more 0 f.whole (last_frame f) h.frames (omega arith) (subst (λ (m : ℕ). IsPostedFrame s m (last_frame f)) (omega arith) (last_fits f h some full)),
        (let size = length-append f.whole (last_frame f ∷ []) in omega (arith, size)),
      )

  all_shaped : (f : FramesSoFar) → IsSoFar s f → is_whole s f ≡ true → AreFrames s 0 (all_frames f) × (length (all_frames f) ≡ f.begun)
  all_shaped f h whole = all_by f (f.begun == 0) refl h whole

  -- ---- one more record

  after_frame : (f g : FramesSoFar) (number : ℕ) → IsSoFar s f → with_frame s f number ≡ Some g → IsSoFar s g
  after_frame f g number h e =
      let t = if_then ((number == f.begun) && nat_le number s.steps && is_whole s f) (Some (record { whole = all_frames f; begun = number + 1; posts = []; bodies = [] })) g e in
      let c = both_of ((number == f.begun) && nat_le number s.steps) (is_whole s f) t.0 in
      let d = both_of (number == f.begun) (nat_le number s.steps) c.0 in
      let here = equal_is number f.begun d.0 in
      let le = at_most_is number s.steps d.1 in
      let all = all_shaped f h c.1 in
      subst (IsSoFar s) (same_Some _ g t.1) (record { frames = all.0; count = (let size = all.1 in omega arith); steps = omega arith; posts = All-nil _; none = λ _. refl; bodies = tt })

  after_post : (f g : FramesSoFar) (p : Post) → (p.agent < length s.agents → IsPrintedPost (length s.agents) p) → IsSoFar s f → with_post s f p ≡ Some g → IsSoFar s g
  after_post f g p limits h e =
      let t = if_then (nat_lt 1 f.begun && (length f.bodies == 0) && nat_lt p.agent (length s.agents)) (Some (record f { posts = f.posts ++ p ∷ [] })) g e in
      let c = both_of (nat_lt 1 f.begun && (length f.bodies == 0)) (nat_lt p.agent (length s.agents)) t.0 in
      let d = both_of (nat_lt 1 f.begun) (length f.bodies == 0) c.0 in
      let later = less_is 1 f.begun d.0 in
      let fits = limits (less_is p.agent (length s.agents) c.1) in
      subst (IsSoFar s) (same_Some _ g t.1)
      (record { frames = h.frames; count = h.count; steps = h.steps; posts = All-push (IsPrintedPost (length s.agents)) f.posts p h.posts fits; none = λ le. absurd (omega arith); bodies = h.bodies })

  after_body : (f g : FramesSoFar) (b : Body) → IsPrintedBody b → IsSoFar s f → with_body s f b ≡ Some g → IsSoFar s g
  after_body f g b fits h e =
      let t = if_then (nat_lt 0 f.begun && (b.agent == length f.bodies) && nat_lt b.agent (length s.agents)) (Some (record f { bodies = f.bodies ++ b ∷ [] })) g e in
      let c = both_of (nat_lt 0 f.begun && (b.agent == length f.bodies)) (nat_lt b.agent (length s.agents)) t.0 in
      let d = both_of (nat_lt 0 f.begun) (b.agent == length f.bodies) c.0 in
      let here = equal_is b.agent (length f.bodies) d.1 in
      subst (IsSoFar s) (same_Some _ g t.1)
      (record { frames = h.frames; count = h.count; steps = h.steps; posts = h.posts; none = h.none; bodies = bodies_more 0 f.bodies b h.bodies (omega arith) fits })

  after_record : (f g : FramesSoFar) (row : Record) → IsSoFar s f → with_record s f row ≡ Some g → IsSoFar s g
  unfolding with_record
  after_record f g row h e = elim (chosen (is_kind row (codes "frame")) _ _ _ e) [
    | inl x ↦ let (number, is, e1) = some_then (number_of_row row) (with_frame s f) g x.1 in after_frame f g number h e1
    | inr x ↦ elim (chosen (is_kind row (codes "take")) _ _ _ x.1) [
      | inl y ↦ let (p, is, e1) = some_then (post_of_row row) (with_post s f) g y.1 in after_post f g p (λ below. post_limits row p (length s.agents) is below) h e1
      | inr y ↦ elim (chosen (is_kind row (codes "body")) _ _ _ y.1) [
        | inl z ↦ let (b, is, e1) = some_then (body_of_row row) (with_body s f) g z.1 in after_body f g b (body_limits row b is) h e1
        | inr z ↦ let bad = z.1 in cc bad
      ]
    ]
  ]

  -- ---- all records

  end_is : (f : FramesSoFar) (o : Option ℕ) → ends s f o ≡ true → (0 < f.begun) × (is_whole s f ≡ true)
  end_is f None e = cc e
  end_is f (Some n) e = let t = both_of (n + 1 == f.begun) (is_whole s f) e in let here = equal_is (n + 1) f.begun t.0 in (omega arith, t.1)

  closed_is : (f : FramesSoFar) (k : ℕ) (rest : List Record) (frames : List PostedFrame) → closed f k rest ≡ Ok frames → all_frames f ≡ frames
  closed_is f k [] frames e = cc e
  closed_is f k (row ∷ rest) frames e = cc e

  goes_on : (k : ℕ) (o : Option FramesSoFar) (more : FramesSoFar → Result (List PostedFrame) ℕ) (frames : List PostedFrame) → or_stop k o more ≡ Ok frames
      → (g : FramesSoFar) × (o ≡ Some g) × (more g ≡ Ok frames)
  goes_on k None more frames e = cc e
  goes_on k (Some g) more frames e = (g, refl, e)

  shaped_at_end : (f : FramesSoFar) (row : Record) (k : ℕ) (rest : List Record) (frames : List PostedFrame) → IsSoFar s f → is_end s f row ≡ true → closed f k rest ≡ Ok frames → IsShaped s frames
  unfolding is_end
  shaped_at_end f row k rest frames h e same =
      let t = both_of (is_kind row (codes "end")) (ends s f (number_of_row row)) e in
      let (some, whole) = end_is f (number_of_row row) t.1 in
      let all = all_shaped f h whole in
      subst (IsShaped s) (closed_is f k rest frames same) (record { some = (let size = all.1 in omega arith); each = all.0 })

  shaped_from : (first : ℕ) (rows : List Record) (f : FramesSoFar) (k : ℕ) (frames : List PostedFrame) → IsSoFar s f → frames_from s first f k rows ≡ Ok frames → IsShaped s frames
  unfolding frames_from
  shaped_from first [] f k frames h e = cc e
  shaped_from first (row ∷ rest) f k frames h e = elim (chosen (nat_lt k first) _ _ _ e) [
    | inl x ↦ shaped_from first rest f (k + 1) frames h x.1
    | inr x ↦ elim (chosen (is_end s f row) _ _ _ x.1) [
      | inl y ↦ shaped_at_end f row k rest frames h y.0 y.1
      | inr y ↦ let (g, is, more) = goes_on k (with_record s f row) (λ g. frames_from s first g (k + 1) rest) frames y.1 in shaped_from first rest g (k + 1) frames (after_record f g row h is) more
    ]
  ]

  pub frames_shaped : (first : ℕ) (rows : List Record) (frames : List PostedFrame) → frames_from s first none_begun 0 rows ≡ Ok frames → IsShaped s frames
  frames_shaped first rows frames e =
      shaped_from first rows none_begun 0 frames (record { frames = tt; count = omega arith; steps = omega arith; posts = All-nil _; none = λ _. refl; bodies = tt }) e
