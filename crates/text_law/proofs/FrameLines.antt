-- The lines of a frame: each reads as its fields, and these spell what they were printed from.
use Rattle.std.proofs.Common.{◌≡◌, ◌∙◌, ◌<◌, ◌≤◌, ap, refl, ℕ, List, [], ◌∷◌, ◌++◌, append_assoc, rules, arith, Some}
use Rattle.std.specs.Prelude.{codes}
use Rattle.std.specs.Fmt.{decimal, signed_decimal}
use Rattle.csv.specs.Records.{field_at}
use Rattle.csv.specs.declared.parser.State.TheVariants as st
use Rattle.crowd_data.specs.declared.frame.Body.{Body}
use Rattle.crowd_data.specs.declared.frame.Mark.{Mark}
use Rattle.crowd_data.specs.declared.frame.Mark.TheVariants.{Start, Feasible, Fallback, Stopped, Crowded}
use Rattle.crowd_data.specs.declared.post.Post.{Post}
use Rattle.crowd_data.specs.declared.limits.TheConstants.{GREATEST_AGENT, GREATEST_SPEED, MOST_AGENTS, MOST_STEPS}
use Rattle.frame_text.specs.declared.limits.TheConstants.{GREATEST_RELIEF}
use Rattle.frame_text.specs.Lines.{body_line, end_line, frame_line, mark_word, take_line, vector_text}
use Rattle.frame_text.specs.Shape.{body_of_row, mark_of_word, number_of_row, post_of_row}
use Rattle.frame_text.specs.Shaped.{IsPrintedBody, IsPrintedPost}
use Rattle.scenario_read.specs.Records.{Record, records_after}
use Rattle.text_law.proofs.Numerals.{IsPlain, decimal_plain, signed_plain}
use Rattle.text_law.proofs.Rows.{ArePlain, fields_then, row_read}
use Rattle.text_law.proofs.Values.{count_is, vector_is}

abbrev pub frame_row : ℕ → Record
frame_row n = codes "frame" ∷ decimal n ∷ []

abbrev pub end_row : ℕ → Record
end_row n = codes "end" ∷ decimal n ∷ []

abbrev take_numbers : Post → Record
take_numbers p = decimal p.controller ∷ decimal p.seq ∷ decimal p.agent ∷ signed_decimal p.vel.x ∷ signed_decimal p.vel.y ∷ []

abbrev pub take_row : Post → Record
take_row p = codes "take" ∷ take_numbers p

abbrev body_numbers : Body → Record
body_numbers b =
    decimal b.agent ∷ signed_decimal b.pos.x ∷ signed_decimal b.pos.y ∷ signed_decimal b.vel.x ∷ signed_decimal b.vel.y ∷ signed_decimal b.pref.x ∷ signed_decimal b.pref.y
    ∷ mark_word b.mark ∷ decimal b.relief ∷ []

abbrev pub body_row : Body → Record
body_row b = codes "body" ∷ body_numbers b

-- ---- the lines as rows

frame_text : (n : ℕ) (tail : List ℕ) → frame_line n ++ tail ≡ codes "frame" ++ fields_then (decimal n ∷ []) tail
unfolding frame_line
frame_text n tail = simp append_assoc

end_text : (n : ℕ) (tail : List ℕ) → end_line n ++ tail ≡ codes "end" ++ fields_then (decimal n ∷ []) tail
unfolding end_line
end_text n tail = simp append_assoc

-- three fields and a vector, each behind its text
three_and_vector : (k s a b d x y n tail : List ℕ) → k ++ a ++ s ++ b ++ s ++ d ++ s ++ (x ++ s ++ y) ++ n ++ tail ≡ k ++ (a ++ (s ++ (b ++ (s ++ (d ++ (s ++ (x ++ (s ++ (y ++ (n ++ tail))))))))))
three_and_vector k s a b d x y n tail = simp append_assoc

-- a field, three vectors and two fields
vectors_and_two : (k s a x y u v p q b d n tail : List ℕ)
    → k ++ a ++ s ++ (x ++ s ++ y) ++ s ++ (u ++ s ++ v) ++ s ++ (p ++ s ++ q) ++ s ++ b ++ s ++ d ++ n ++ tail
    ≡ k ++ (a ++ (s ++ (x ++ (s ++ (y ++ (s ++ (u ++ (s ++ (v ++ (s ++ (p ++ (s ++ (q ++ (s ++ (b ++ (s ++ (d ++ (n ++ tail))))))))))))))))))
vectors_and_two k s a x y u v p q b d n tail = simp append_assoc

take_text : (p : Post) (tail : List ℕ) → take_line p ++ tail ≡ codes "take" ++ fields_then (take_numbers p) tail
unfolding take_line vector_text
take_text p tail = three_and_vector (codes "take,") (codes ",") (decimal p.controller) (decimal p.seq) (decimal p.agent) (signed_decimal p.vel.x) (signed_decimal p.vel.y) (codes "\n") tail

body_text : (b : Body) (tail : List ℕ) → body_line b ++ tail ≡ codes "body" ++ fields_then (body_numbers b) tail
unfolding body_line vector_text
body_text b tail =
    vectors_and_two (codes "body,") (codes ",") (decimal b.agent) (signed_decimal b.pos.x) (signed_decimal b.pos.y) (signed_decimal b.vel.x) (signed_decimal b.vel.y)
    (signed_decimal b.pref.x) (signed_decimal b.pref.y) (mark_word b.mark) (decimal b.relief) (codes "\n") tail

-- ---- the lines as records

mark_plain : (m : Mark) → IsPlain (mark_word m)
mark_plain Start = refl
mark_plain Feasible = refl
mark_plain Fallback = refl
mark_plain Stopped = refl
mark_plain Crowded = refl

frame_plain : (n : ℕ) → n ≤ MOST_STEPS → ArePlain (frame_row n)
frame_plain n h = search (rules, decimal_plain)

end_plain : (n : ℕ) → n ≤ MOST_STEPS → ArePlain (end_row n)
end_plain n h = search (rules, decimal_plain)

take_plain : (p : Post) (agents : ℕ) → IsPrintedPost agents p → agents ≤ MOST_AGENTS → ArePlain (take_row p)
take_plain p agents h small = search (rules, decimal_plain, signed_plain)

body_plain : (b : Body) → IsPrintedBody b → b.agent < MOST_AGENTS → ArePlain (body_row b)
body_plain b h small = search (rules, decimal_plain, signed_plain, mark_plain)

pub frame_reads : (n : ℕ) (tail : List ℕ) → n ≤ MOST_STEPS → records_after st.StartRecord (frame_line n ++ tail) ≡ frame_row n ∷ records_after st.StartRecord tail
frame_reads n tail h = ap (records_after st.StartRecord) (frame_text n tail) ∙ row_read (codes "frame") (decimal n) [] tail (frame_plain n h)

pub end_reads : (n : ℕ) (tail : List ℕ) → n ≤ MOST_STEPS → records_after st.StartRecord (end_line n ++ tail) ≡ end_row n ∷ records_after st.StartRecord tail
end_reads n tail h = ap (records_after st.StartRecord) (end_text n tail) ∙ row_read (codes "end") (decimal n) [] tail (end_plain n h)

pub take_reads : (agents : ℕ) → agents ≤ MOST_AGENTS → (p : Post) (tail : List ℕ) → IsPrintedPost agents p → records_after st.StartRecord (take_line p ++ tail) ≡ take_row p ∷ records_after st.StartRecord tail
take_reads agents small p tail h = ap (records_after st.StartRecord) (take_text p tail) ∙ row_read (codes "take") (decimal p.controller) _ tail (take_plain p agents h small)

pub body_reads : (b : Body) (tail : List ℕ) → IsPrintedBody b → b.agent < MOST_AGENTS → records_after st.StartRecord (body_line b ++ tail) ≡ body_row b ∷ records_after st.StartRecord tail
body_reads b tail h small = ap (records_after st.StartRecord) (body_text b tail) ∙ row_read (codes "body") (decimal b.agent) _ tail (body_plain b h small)

-- ---- what the rows spell

pub frame_number_is : (n : ℕ) → n ≤ MOST_STEPS → number_of_row (frame_row n) ≡ Some n
unfolding number_of_row field_at
frame_number_is n h = rw (count_is (frame_row n) 1 0 MOST_STEPS n refl (omega arith) h (omega arith)) refl

pub end_number_is : (n : ℕ) → n ≤ MOST_STEPS → number_of_row (end_row n) ≡ Some n
unfolding number_of_row field_at
end_number_is n h = rw (count_is (end_row n) 1 0 MOST_STEPS n refl (omega arith) h (omega arith)) refl

pub take_is : (p : Post) (agents : ℕ) → IsPrintedPost agents p → agents ≤ MOST_AGENTS → post_of_row (take_row p) ≡ Some p
unfolding post_of_row field_at
take_is p agents h small =
    let row = take_row p in
    rw (
      count_is row 1 0 16 p.controller refl (omega arith) h.controller (omega arith),
      count_is row 2 0 4294967295 p.seq refl (omega arith) h.seq (omega arith),
      count_is row 3 0 GREATEST_AGENT p.agent refl (omega arith) (omega (arith, h.agent)) (omega arith),
      vector_is row 4 5 GREATEST_SPEED p.vel refl refl h.vel (omega arith),
    ) refl

mark_is : (m : Mark) → mark_of_word (mark_word m) ≡ Some m
unfolding mark_of_word
mark_is Start = refl
mark_is Feasible = refl
mark_is Fallback = refl
mark_is Stopped = refl
mark_is Crowded = refl

pub body_is : (b : Body) → IsPrintedBody b → b.agent < MOST_AGENTS → body_of_row (body_row b) ≡ Some b
unfolding body_of_row field_at
body_is b h small =
    let row = body_row b in
    rw (
      count_is row 1 0 GREATEST_AGENT b.agent refl (omega arith) (omega arith) (omega arith),
      vector_is row 2 3 2147483647 b.pos refl refl h.pos (omega arith),
      vector_is row 4 5 GREATEST_SPEED b.vel refl refl h.vel (omega arith),
      vector_is row 6 7 GREATEST_SPEED b.pref refl refl h.pref (omega arith),
      mark_is b.mark,
      count_is row 9 0 GREATEST_RELIEF b.relief refl (omega arith) h.relief (omega arith),
    ) refl
