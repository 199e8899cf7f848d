-- Turns on more frames.
use Rattle.std.proofs.Common.{◌≡◌, ℕ, suc, ◌*◌, ◌+◌, ◌<◌, ◌≤◌, ◌⊎◌, inl, inr, ⊎_elim, List, [], ◌∷◌, ◌++◌, length, map, refl, ap, sym, ◌∙◌, subst, arith, append_assoc, length-append, Option, Some, None}
use Rattle.std.specs.Prelude.{reverse}
use Rattle.std.proofs.lemmas.List.{append-nil, length-map, length-reverse, map-append, reverse-append}
use Rattle.crowd_data.specs.Run.{Snapshot, start_of}
use Rattle.crowd_data.specs.Scenario.{Parts}
use Rattle.crowd_data.specs.declared.post.Goal.{Goal}
use Rattle.published_frames.specs.declared.entry.Step.{Step}
use Rattle.published_frames.specs.History.{StartsWith, frame_of, last_of}
use Rattle.controller_turns.specs.Turns.{HasTurned, IsNewer, Preference, TurnsBack, TurnsOn, TurnsTo, frames_of, preference_for, turn}

-- ---- turns on some frames

back : (t : Snapshot → List Preference) (frames : List Snapshot) (frame : Snapshot) (list : List Preference) → TurnsBack t (frame ∷ reverse frames) list → TurnsOn t (frames ++ frame ∷ []) list
back t frames frame list h = subst (λ (l : List Snapshot). TurnsBack t l list) (sym (reverse-append frames (frame ∷ []))) h

pub on_none : (t : Snapshot → List Preference) → TurnsOn t [] []
on_none t = refl

-- a frame that is skipped
pub on_skip : (t : Snapshot → List Preference) (frames : List Snapshot) (frame : Snapshot) (list : List Preference) → TurnsOn t frames list → TurnsOn t (frames ++ frame ∷ []) list
on_skip t frames frame list h = back t frames frame list (inl h)

-- a turn more
pub on_turn : (t : Snapshot → List Preference) (frames : List Snapshot) (frame : Snapshot) (list : List Preference) → TurnsOn t frames list → TurnsOn t (frames ++ frame ∷ []) (list ++ t frame)
on_turn t frames frame list h = back t frames frame (list ++ t frame) (inr (list, refl, h))

-- frames that are skipped
pub on_more : (t : Snapshot → List Preference) (frames more : List Snapshot) (list : List Preference) → TurnsOn t frames list → TurnsOn t (frames ++ more) list
on_more t frames [] list h = subst (λ (l : List Snapshot). TurnsOn t l list) (sym (append-nil frames)) h
on_more t frames (next ∷ more) list h =
    subst (λ (l : List Snapshot). TurnsOn t l list) (append_assoc frames (next ∷ []) more) (on_more t (frames ++ next ∷ []) more list (on_skip t frames next list h))

-- no turn, on any frames
pub on_all : (t : Snapshot → List Preference) (frames : List Snapshot) → TurnsOn t frames []
on_all t frames = on_more t [] frames [] (on_none t)

-- the two cases of the last frame, read back: it was skipped, or the list ends with its turn
pub on_last : (t : Snapshot → List Preference) (frames : List Snapshot) (frame : Snapshot) (list : List Preference) → TurnsOn t (frames ++ frame ∷ []) list
    → TurnsOn t frames list ⊎ ((rest : List Preference) × (list ≡ rest ++ t frame) × TurnsOn t frames rest)
on_last t frames frame list h = subst (λ (l : List Snapshot). TurnsBack t l list) (reverse-append frames (frame ∷ [])) h

-- ---- turns with a last one

pub to_on : (t : Snapshot → List Preference) (frames : List Snapshot) (list : List Preference) (place : ℕ) → TurnsTo t frames list place → TurnsOn t frames list
to_on t frames list place h =
    let one : TurnsOn t (h.before ++ h.frame ∷ []) (h.rest ++ t h.frame) = on_turn t h.before h.frame h.rest h.earlier in
    let all : TurnsOn t ((h.before ++ h.frame ∷ []) ++ h.after) (h.rest ++ t h.frame) = on_more t (h.before ++ h.frame ∷ []) h.after (h.rest ++ t h.frame) one in
    subst (λ (p : List Snapshot × List Preference). TurnsOn t p.0 p.1) (λ i. ((append_assoc h.before (h.frame ∷ []) h.after ∙ sym h.split) i, sym h.ends i)) all

-- further frames change nothing
pub to_longer : (t : Snapshot → List Preference) (frames more : List Snapshot) (list : List Preference) (place : ℕ) → TurnsTo t frames list place → TurnsTo t (frames ++ more) list place
to_longer t frames more list place h = record {
  before = h.before;
  frame = h.frame;
  after = h.after ++ more;
  rest = h.rest;
  split = ap (λ l. l ++ more) h.split ∙ append_assoc h.before (h.frame ∷ h.after) more;
  at = h.at;
  ends = h.ends;
  earlier = h.earlier;
}

cut : (frames more before : List Snapshot) (frame : Snapshot) (after : List Snapshot) → frames ++ more ≡ before ++ frame ∷ after → length before < length frames → (rest : List Snapshot) × (frames ≡ before ++ frame ∷ rest)
cut [] more before frame after e l = absurd (omega arith)
cut (x ∷ frames) more [] frame after e l = (frames, cc e)
cut (x ∷ frames) more (b ∷ before) frame after e l = let r = cut frames more before frame after (cc e) (omega arith) in (r.0, cc (e, r.1))

-- nor do frames that are left out behind the one of the last turn
pub to_shorter : (t : Snapshot → List Preference) (frames more : List Snapshot) (list : List Preference) (place : ℕ) → TurnsTo t (frames ++ more) list place → place < length frames → TurnsTo t frames list place
to_shorter t frames more list place h l =
    let r = cut frames more h.before h.frame h.after h.split (let e = h.at in omega arith) in
    record {
      before = h.before;
      frame = h.frame;
      after = r.0;
      rest = h.rest;
      split = r.1;
      at = h.at;
      ends = h.ends;
      earlier = h.earlier;
    }

-- a turn on a frame more
pub to_next : (t : Snapshot → List Preference) (frames : List Snapshot) (frame : Snapshot) (list : List Preference) → TurnsOn t frames list → TurnsTo t (frames ++ frame ∷ []) (list ++ t frame) (length frames)
to_next t frames frame list h = record {
  before = frames;
  frame = frame;
  after = [];
  rest = list;
  split = refl;
  at = refl;
  ends = refl;
  earlier = h;
}

-- the last turn was on one of the frames
pub to_below : (t : Snapshot → List Preference) (frames : List Snapshot) (list : List Preference) (place : ℕ) → TurnsTo t frames list place → place < length frames
to_below t frames list place h = let a = ap length h.split in let b = length-append h.before (h.frame ∷ h.after) in let d = h.at in omega arith

-- ---- turns on the frames of a history

-- the frames of a longer history
pub frames_of-append : (scenario : Parts) (history more : List Step) → frames_of scenario (history ++ more) ≡ frames_of scenario history ++ map frame_of more
frames_of-append scenario history more = ap (λ l. start_of scenario ∷ l) (map-append frame_of history more)

-- frames, the first one and those of the steps, are all but the last one, and the last one
split_last : (first : Snapshot) (history : List Step) → (front : List Snapshot) × (first ∷ map frame_of history ≡ front ++ last_of first history ∷ []) × (length front ≡ length history)
split_last first [] = ([], refl, refl)
split_last first (step ∷ rest) = let r = split_last (frame_of step) rest in (first ∷ r.0, ap (λ l. first ∷ l) r.1, ap suc r.2)

-- further steps change nothing
pub turned_longer : (t : Snapshot → List Preference) (scenario : Parts) (all history : List Step) (list : List Preference) (last : Option ℕ) → StartsWith all history
    → HasTurned t (frames_of scenario history) list last → HasTurned t (frames_of scenario all) list last
turned_longer t scenario all history list None w h = h
turned_longer t scenario all history list (Some number) w h =
    subst (λ (l : List Snapshot). TurnsTo t l list number) (sym (ap (frames_of scenario) w.1 ∙ frames_of-append scenario history w.0)) (to_longer t (frames_of scenario history) (map frame_of w.0) list number h)

-- the turns so far were on the frames in front, where the last one was on one of them
earlier_on : (t : Snapshot → List Preference) (front more : List Snapshot) (list : List Preference) (last : Option ℕ) → HasTurned t (front ++ more) list last → IsNewer last (length front) → TurnsOn t front list
earlier_on t front more list None h l = subst (λ (p : List Preference). TurnsOn t front p) (sym h) (on_all t front)
earlier_on t front more list (Some number) h l = to_on t front list number (to_shorter t front more list number h l)

-- a turn on the last frame of a history, seen in a longer one, where the last turn so far was on an earlier frame
pub turned_amid : (t : Snapshot → List Preference) (scenario : Parts) (all history : List Step) (list : List Preference) (last : Option ℕ) → StartsWith all history → HasTurned t (frames_of scenario all) list last
    → IsNewer last (length history) → TurnsTo t (frames_of scenario all) (list ++ t (last_of (start_of scenario) history)) (length history)
turned_amid t scenario all history list last w h l =
    let first = start_of scenario in
    let r = split_last first history in
    let f = last_of first history in
    let more = map frame_of w.0 in
    let e : frames_of scenario all ≡ r.0 ++ f ∷ more = ap (frames_of scenario) w.1 ∙ (frames_of-append scenario history w.0 ∙ (ap (λ l. l ++ more) r.1 ∙ append_assoc r.0 (f ∷ []) more)) in
    let on : TurnsOn t r.0 list = earlier_on t r.0 (f ∷ more) list last (subst (λ (l : List Snapshot). HasTurned t l list last) e h) (subst (λ (n : ℕ). IsNewer last n) (sym r.2) l) in
    let next : TurnsTo t ((r.0 ++ f ∷ []) ++ more) (list ++ t f) (length r.0) = to_longer t (r.0 ++ f ∷ []) more (list ++ t f) (length r.0) (to_next t r.0 f list on) in
    subst (λ (x : List Snapshot × ℕ). TurnsTo t x.0 (list ++ t f) x.1) (λ i. ((append_assoc r.0 (f ∷ []) more ∙ sym e) i, r.2 i)) next

-- ---- how many preferences turns give

mul_more : (n g : ℕ) → suc n * g ≡ n * g + g
mul_more n g = omega arith

back_few : (t : Snapshot → List Preference) (most : ℕ) → ((frame : Snapshot) → length (t frame) ≤ most) → (frames : List Snapshot) (list : List Preference) → TurnsBack t frames list → length list ≤ length frames * most
back_few t most each [] list e = let l = ap length e in omega arith
back_few t most each (frame ∷ before) list h = ⊎_elim
    (λ (x : TurnsBack t before list). let l = back_few t most each before list x in let m = mul_more (length before) most in omega arith)
    (λ (x : (rest : List Preference) × (list ≡ rest ++ t frame) × TurnsBack t before rest).
    let l = back_few t most each before x.0 x.2 in let a = each frame in let b = ap length x.1 in let d = length-append x.0 (t frame) in let m = mul_more (length before) most in omega arith)
    h

-- no more than a turn on each frame
pub on_few : (t : Snapshot → List Preference) (most : ℕ) → ((frame : Snapshot) → length (t frame) ≤ most) → (frames : List Snapshot) (list : List Preference) → TurnsOn t frames list → length list ≤ length frames * most
on_few t most each frames list h = subst (λ (n : ℕ). length list ≤ n * most) (length-reverse frames) (back_few t most each (reverse frames) list h)

pub length-turn : (goals : List Goal) (frame : Snapshot) → length (turn goals frame) ≡ length goals
length-turn goals frame = length-map goals (preference_for frame)

pub turns_few : (goals : List Goal) (frames : List Snapshot) (list : List Preference) → TurnsOn (turn goals) frames list → length list ≤ length frames * length goals
turns_few goals frames list h = on_few (turn goals) (length goals) (λ frame. let e = length-turn goals frame in omega arith) frames list h

length-frames_of : (scenario : Parts) (history : List Step) → length (frames_of scenario history) ≡ length history + 1
length-frames_of scenario history = let e = length-map history frame_of in omega arith

-- no more than a turn on each frame of a history
pub turned_few : (goals : List Goal) (scenario : Parts) (history : List Step) (list : List Preference) (last : Option ℕ) → HasTurned (turn goals) (frames_of scenario history) list last → length list ≤ (length history + 1) * length goals
turned_few goals scenario history list None h = let e = ap length h in omega arith
turned_few goals scenario history list (Some number) h =
    subst (λ (n : ℕ). length list ≤ n * length goals) (length-frames_of scenario history) (turns_few goals (frames_of scenario history) list (to_on (turn goals) (frames_of scenario history) list number h))

-- nor before a turn on the last frame than a turn on each frame before it
pub turned_few_before : (goals : List Goal) (scenario : Parts) (history : List Step) (list : List Preference) (last : Option ℕ) → HasTurned (turn goals) (frames_of scenario history) list last
    → IsNewer last (length history) → length list ≤ length history * length goals
turned_few_before goals scenario history list last h l =
    let r = split_last (start_of scenario) history in
    let on = earlier_on (turn goals) r.0 (last_of (start_of scenario) history ∷ []) list last (subst (λ (x : List Snapshot). HasTurned (turn goals) x list last) r.1 h) (subst (λ (n : ℕ). IsNewer last n) (sym r.2) l) in
    subst (λ (n : ℕ). length list ≤ n * length goals) r.2 (turns_few goals r.0 list on)
